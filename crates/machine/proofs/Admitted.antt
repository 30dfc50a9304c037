-- What is admitted is what steps have told. Assumes nothing.
use Rattle.std.proofs.Common.{◌≡◌, ℕ, ◌↔◌, List, [], ◌∷◌, ◌++◌, Ok, sym, refl, ap, ◌∙◌, subst, append-nil}
use mathlib.Core.Logic.Iff
use Rattle.terms.specs.declared.Operand.{Operand}
use Rattle.terms.specs.declared.Primitive.{Primitive}
use Rattle.terms.specs.Lists.{All}
use Rattle.terms.specs.Domains.{Valuation, Sensible, TrueIn}
use Rattle.rules.specs.Books.{tell, Book}
use Rattle.theory.specs.declared.interface.Theory as Theory
use Rattle.table.specs.declared.partner.PartnerTable as PartnerTable
use Rattle.machine.specs.Lists.{◌∈◌, here}
use Rattle.machine.specs.Sheets.{Entry, goal, Config, StepAnswer, told, Event, stepped, telling}
use Rattle.machine.specs.Refined as ref
use Rattle.machine.specs.Refined.{meaning, Opened, StepSays, VariableSays, PostSays}
use Rattle.machine.specs.Statements.{tellings}
use Rattle.machine.proofs.Members.{all_append, all_parts}
use Rattle.machine.proofs.Trails.{tellings_more}
use Rattle.machine.proofs.Good.{Good}

module _ {A B : Type 0} (T : Theory.Ghosts A) (P : PartnerTable.Ghosts B) where
  -- the admitted valuations are those in which all that was told is true
  abbrev pub AdmittedAt : List Event → Config A B → Type 0
  AdmittedAt es s = (v : Valuation T.domain) → (meaning T s).admits v ↔ (Sensible T.domain v × All (TrueIn T.domain v) (tellings es))

  pub admitted_opened : (book : Book) (s : Config A B) → Opened T P book s → AdmittedAt [] s
  admitted_opened book s o v = (λ av. ((o.clear.1 v).0 av, tt), λ y. (o.clear.1 v).1 y.0)

  -- nothing was told, and as much is admitted
  admitted_same : (es fs : List Event) (s t : Config A B) → tellings fs ≡ [] → ((v : Valuation T.domain) → (meaning T t).admits v ↔ (meaning T s).admits v) → AdmittedAt es s → AdmittedAt (es ++ fs) t
  admitted_same es fs s t e same x v = subst (λ (z : List (Primitive Operand)). (meaning T t).admits v ↔ (Sensible T.domain v × All (TrueIn T.domain v) z)) (sym (tellings_more es fs ∙ ap (λ z. tellings es ++ z) e ∙ append-nil (tellings es))) (Iff.trans (same v) (x v))

  admitted_stays : (es fs : List Event) (s t : Config A B) → tellings fs ≡ [] → t.theory ≡ s.theory → AdmittedAt es s → AdmittedAt (es ++ fs) t
  admitted_stays es fs s t e q = admitted_same es fs s t e (λ v. subst (λ (z : A). (T.means z).admits v ↔ (meaning T s).admits v) (sym q) (λ av. av, λ av. av))

  admitted_told : (es : List Event) (s t : Config A B) (p : Primitive Operand) (rest : List Entry) → Good T P s → s.waiting ≡ goal (tell p) ∷ rest → Rattle.theory.specs.Meanings.Told (meaning T s) p (meaning T t) → AdmittedAt es s → AdmittedAt (es ++ (stepped told (telling s.waiting told) ∷ [])) t
  admitted_told es s t p rest good top tl x v = subst (λ (z : List (Primitive Operand)). (meaning T t).admits v ↔ (Sensible T.domain v × All (TrueIn T.domain v) z)) (sym tells) (Iff.trans (tl.1 (good.goals (tell p) (subst (λ z. goal (tell p) ∈ z) (sym top) here)) v) (λ y. (((x v).0 y.0).0, all_append (TrueIn T.domain v) (tellings es) (p ∷ []) ((x v).0 y.0).1 (y.1, tt)), λ y. let q = all_parts (TrueIn T.domain v) (tellings es) (p ∷ []) y.1 in ((x v).1 (y.0, q.0), q.1.0)))
    where
      tells : tellings (es ++ (stepped told (telling s.waiting told) ∷ [])) ≡ tellings es ++ (p ∷ [])
      tells = tellings_more es (stepped told (telling s.waiting told) ∷ []) ∙ ap (λ z. tellings es ++ (telling z told ++ [])) top

  pub admitted_step : (es : List Event) (s t : Config A B) (a : StepAnswer) → Good T P s → StepSays T P s a t → AdmittedAt es s → AdmittedAt (es ++ (stepped a (telling s.waiting a) ∷ [])) t
  admitted_step es s t a good (ref.fails f) x = admitted_stays es _ s s refl refl x
  admitted_step es s t a good (ref.ends st e) x = admitted_stays es _ s s refl refl x
  admitted_step es s t a good (ref.tells p rest is st top w l tl ta b) x = admitted_told es s t p rest good top tl x
  admitted_step es s t a good (ref.crowded p rest is st top w l) x = admitted_stays es _ s s refl refl x
  admitted_step es s t a good (ref.activates c xs rest st top l q e f b) x = admitted_stays es _ s t refl e x
  admitted_step es s t a good (ref.spent c xs rest st top l) x = admitted_stays es _ s s refl refl x
  admitted_step es s t a good (ref.packed c xs rest st top l q) x = admitted_stays es _ s s refl refl x
  admitted_step es s t a good (ref.rises i rest q st top f b) x = admitted_stays es _ s t refl b.theory x
  admitted_step es s t a good (ref.late i rest st top f b) x = admitted_stays es _ s t refl b.theory x
  admitted_step es s t a good (ref.dead i j rest st top f b) x = admitted_stays es _ s t refl b.theory x
  admitted_step es s t a good (ref.over i j rest q st top f l b) x = admitted_stays es _ s t refl b.theory x
  admitted_step es s t a good (ref.passes rest i j k h turn nf b) x = admitted_stays es _ s t refl b.theory x
  admitted_step es s t a good (ref.fires rest i j k h tuple turn fit nh small room made ta b) x = admitted_same es _ s t refl made.1 x
  admitted_step es s t a good (ref.full_history rest i j k h tuple turn fit nh) x = admitted_stays es _ s s refl refl x
  admitted_step es s t a good (ref.full_variables rest i j k h tuple turn fit nh l) x = admitted_stays es _ s s refl refl x
  admitted_step es s t a good (ref.full_waiting rest i j k h tuple turn fit nh l m) x = admitted_stays es _ s s refl refl x

  pub admitted_variable : (es fs : List Event) (s t : Config A B) (x : ℕ) → tellings fs ≡ [] → VariableSays T s (Ok x) t → AdmittedAt es s → AdmittedAt (es ++ fs) t
  admitted_variable es fs s t x e (ref.makes l m ta bo wa hi po ne) = admitted_same es fs s t e m.1

  pub admitted_post : (es fs : List Event) (s t : Config A B) (kind symbol : ℕ) (xs : List Operand) → tellings fs ≡ [] → PostSays T s kind symbol xs (Ok tt) t → AdmittedAt es s → AdmittedAt (es ++ fs) t
  admitted_post es fs s t kind symbol xs e (ref.posts g c ps l q b) = admitted_stays es fs s t e b.theory
