-- A list of calls, cut at any place, and all that stands of it. Assumes nothing.
use Rattle.std.proofs.Common.{◌≡◌, ◌⊎◌, List, [], ◌∷◌, ◌++◌, map, sym, refl, ap, ◌∙◌, subst, inl, inr, append_assoc, append-nil}
use mathlib.Core.List.{cons≢nil}
use Rattle.rules.specs.Books.{Book}
use Rattle.rules.specs.Valids.{Valid}
use Rattle.theory.specs.declared.interface.Theory as Theory
use Rattle.theory.specs.Meanings.{Lawful}
use Rattle.table.specs.declared.partner.PartnerTable as PartnerTable
use Rattle.machine.specs.Sheets.{Config, Call, Answer, Event}
use Rattle.machine.specs.Refined as ref
use Rattle.machine.specs.Refined.{Says, Plays, Opened}
use Rattle.machine.specs.Statements.{Played}
use Rattle.machine.proofs.Calling.{one_answer}
use Rattle.machine.proofs.Done.{done_is_exact}
use Rattle.machine.proofs.Sound.{always_sound}

module _ {A : Type 0} where
  -- both parts of nothing are nothing
  no_parts : (before after : List A) → [] ≡ before ++ after → (before ≡ []) × (after ≡ [])
  no_parts [] after e = (refl, sym e)
  no_parts (b ∷ before) after e = absurd (cons≢nil (sym e))

  -- where a list is cut, its last element comes after, or nothing does
  last_part : (before after log : List A) (x : A) → log ++ (x ∷ []) ≡ before ++ after → ((after ≡ []) × (before ≡ log ++ (x ∷ []))) ⊎ ((rest : List A) × (after ≡ rest ++ (x ∷ [])) × (log ≡ before ++ rest))
  last_part [] after log x e = inr (log, sym e, refl)
  last_part (b ∷ before) after [] x e = let q : [] ≡ before ++ after = cc in let n = no_parts before after q in inl (n.1, (let h : b ≡ x = cc in λ i. h i ∷ n.0 i))
  last_part (b ∷ before) after (l ∷ log) x e = go (let h : b ≡ l = cc in h) (last_part before after log x (let q : log ++ (x ∷ []) ≡ before ++ after = cc in q))
    where
      go : b ≡ l → ((after ≡ []) × (before ≡ log ++ (x ∷ []))) ⊎ ((rest : List A) × (after ≡ rest ++ (x ∷ [])) × (log ≡ before ++ rest)) → ((after ≡ []) × (b ∷ before ≡ (l ∷ log) ++ (x ∷ []))) ⊎ ((rest : List A) × (after ≡ rest ++ (x ∷ [])) × (l ∷ log ≡ (b ∷ before) ++ rest))
      go h (inl r) = inl (r.0, λ i. h i ∷ r.1 i)
      go h (inr r) = inr (r.0, r.1, λ i. sym h i ∷ r.2 i)

module _ {A B : Type 0} (T : Theory.Ghosts A) (P : PartnerTable.Ghosts B) where
  -- the calls before and after a place
  abbrev Cut : Config A B → List (Call × Answer) → List (Call × Answer) → List Event → Config A B → Type 0
  Cut s before after events t = (u : Config A B) × (es fs : List Event) × Plays T P s before es u × Plays T P u after fs t × (events ≡ es ++ fs)

  cut : {s t : Config A B} {log : List (Call × Answer)} {events : List Event} → Plays T P s log events t → (before after : List (Call × Answer)) → log ≡ before ++ after → Cut s before after events t
  cut {s} ref.no_call before after e = let n = no_parts before after e in (s, [], [], subst (λ z. Plays T P s z [] s) (sym n.0) ref.no_call, subst (λ z. Plays T P s z [] s) (sym n.1) ref.no_call, refl)
  cut {s} {t = u} (ref.then {t = t} {log = log} {es = es} {fs = fs} c a p v) before after e = go (cut p) (last_part before after log (c, a) e)
    where
      go : ((before after : List (Call × Answer)) → log ≡ before ++ after → Cut s before after es t) → ((after ≡ []) × (before ≡ log ++ ((c, a) ∷ []))) ⊎ ((rest : List (Call × Answer)) × (after ≡ rest ++ ((c, a) ∷ [])) × (log ≡ before ++ rest)) → Cut s before after (es ++ fs) u
      go ih (inl r) = (u, es ++ fs, [], subst (λ z. Plays T P s z (es ++ fs) u) (sym r.1) (ref.then c a p v), subst (λ z. Plays T P u z [] u) (sym r.0) ref.no_call, sym (append-nil (es ++ fs)))
      go ih (inr r) = let x = ih before r.0 r.2 in (x.0, x.1, x.2 ++ fs, x.3, subst (λ z. Plays T P x.0 z (x.2 ++ fs) u) (sym r.1) (ref.then c a x.4 v), ap (λ z. z ++ fs) x.5 ∙ append_assoc x.1 x.2 fs)

  -- all that stands of an opening and a list of calls
  pub played : Lawful T.means T.capacity → (book : Book) → Valid book → (s t : Config A B) (log : List (Call × Answer)) (events : List Event) → Opened T P book s → Plays T P s log events t → Played T P book (map (λ x. x.0) log) (map (λ x. x.1) log) t
  played lawful book valid s t log events o p = record {
    log = log;
    asked = refl;
    answered = refl;
    from = s;
    opened = o;
    events = events;
    plays = p;
    throughout = λ before after e. let x = cut p before after e in (x.0, x.1, x.2, x.3, x.4, x.5, always_sound T P lawful book valid s x.0 before x.1 o x.3);
    one_answer = one_answer T P;
    done_is_exact = done_is_exact T P;
    always = always_sound T P lawful book valid;
  }
