-- Coverage across each call and step of a sheet, and that the history was applied. Assumes nothing.
use Rattle.std.proofs.Common.{◌≡◌, ℕ, suc, ◌<◌, ◌≤◌, Bool, true, false, not, ◌⊎◌, List, [], ◌∷◌, ◌++◌, map, length, Some, Ok, sym, refl, ap, ◌∙◌, subst, inl, inr, not-suc-le-zero}
use Rattle.std.proofs.lemmas.Option.{none-some}
use Rattle.terms.specs.declared.Operand.{Operand}
use Rattle.terms.specs.declared.Primitive.{Primitive}
use Rattle.rules.specs.Books.{tell, add, Book, heads}
use Rattle.rules.specs.Valids.{Valid}
use Rattle.theory.specs.declared.interface.Theory as Theory
use Rattle.table.specs.declared.partner.PartnerTable as PartnerTable
use Rattle.table.specs.Lists.{first}
use Rattle.table.specs.Records.{Record, recorded}
use Rattle.table.specs.Tables.{Table}
use Rattle.machine.specs.Lists.{◌∈◌, here}
use Rattle.machine.specs.Matching.{Store, Firing, Matches, rule_at, gone}
use Rattle.machine.specs.Sheets.{Entry, goal, wake, active, Config, StepAnswer, Event, stepped}
use Rattle.machine.specs.Refined as ref
use Rattle.machine.specs.Refined.{meaning, living, removes_nothing, names_any, Waits, Opened, StepSays, VariableSays, PostSays}
use Rattle.machine.specs.Statements.{firings}
use Rattle.machine.proofs.Members.{mem_left, mem_right, mem_append, mem_kept_back}
use Rattle.machine.proofs.Unique.{matches_length}
use Rattle.machine.proofs.Stores.{adding, survivors, survivor, living_with, living_without, matched_record}
use Rattle.machine.proofs.Cover.{firing, remembered, Covers, told_covers, passed_covers, made_covers, more_covers, risen_covers, late_covers, dead_covers, over_covers, added_covers, fired_covers}
use Rattle.machine.proofs.Trails.{firings_more}
use Rattle.machine.proofs.Good.{Good, known_slots, rule_valid, turn_bounds}

none_match : (store : Store) (hs tuple : List ℕ) → ((i : ℕ) (r : Record) → store i ≡ Some r → ⊥) → 1 ≤ length hs → Matches store hs tuple → ⊥
none_match store [] tuple f l m = not-suc-le-zero l
none_match store (h ∷ hs) [] f l m = m
none_match store (h ∷ hs) (i ∷ is) f l m = let r = matched_record store (h ∷ hs) (i ∷ is) m here in f i r.0 r.1

recorded_after : (b : Bool) (hist fires : List Firing) (k : ℕ) (tuple out : List ℕ) → ((f : Firing) → f ∈ hist → f ∈ fires) → (f : Firing) → f ∈ remembered b hist k tuple out → f ∈ (fires ++ (firing k tuple ∷ []))
recorded_after true hist fires k tuple out r f m = go (mem_append hist m)
  where
    go : (f ∈ hist) ⊎ (f ∈ (firing k tuple ∷ [])) → f ∈ (fires ++ (firing k tuple ∷ []))
    go (inl z) = mem_left (firing k tuple ∷ []) (r f z)
    go (inr z) = mem_right fires z
recorded_after false hist fires k tuple out r f m = mem_left (firing k tuple ∷ []) (r f (mem_kept_back (λ (w : Firing). not (names_any out w.1)) hist m).0)

module _ {A B : Type 0} (T : Theory.Ghosts A) (P : PartnerTable.Ghosts B) where
  -- every tuple that a rule applies to is covered on the sheet
  abbrev pub CoveredAt : Config A B → Type 0
  CoveredAt s = Covers s.book (meaning T s) s.waiting s.history (living P s)

  -- what stands in the history was applied by a step
  abbrev pub RecordedAt : List Event → Config A B → Type 0
  RecordedAt es s = (f : Firing) → f ∈ s.history → f ∈ firings es

  covered_with : (s t : Config A B) (w : List Entry) (h : List Firing) (store : Store) → t.book ≡ s.book → t.waiting ≡ w → t.history ≡ h → living P t ≡ store → Covers s.book (meaning T t) w h store → CoveredAt t
  covered_with s t w h store b e f g c = subst (λ (z : Book × List Entry × List Firing × Store). Covers z.0 (meaning T t) z.1 z.2 z.3) (λ i. (sym b i, sym e i, sym f i, sym g i)) c

  same_table : (s t : Config A B) → t.table ≡ s.table → living P t ≡ living P s
  same_table s t e = ap (λ z i. first (P.records z i)) e

  -- only the waiting list changes
  covered_waits : (s t : Config A B) (v w : List Entry) → s.waiting ≡ v → Waits s t w → (Covers s.book (meaning T s) v s.history (living P s) → Covers s.book (meaning T s) w s.history (living P s)) → CoveredAt s → CoveredAt t
  covered_waits s t v w e b f c = covered_with s t w s.history (living P s) b.becomes.book b.becomes.waiting b.becomes.history (same_table s t b.table) (subst (λ (z : A). Covers s.book (T.means z) w s.history (living P s)) (sym b.theory) (f (subst (λ z. Covers s.book (meaning T s) z s.history (living P s)) e c)))

  pub covered_opened : (book : Book) (s : Config A B) → Valid book → Opened T P book s → CoveredAt s
  covered_opened book s valid o st k tuple a b ap = absurd (none_match (living P s) (heads (rule_at s.book k)) tuple (λ i r e. none-some _ (sym (mathlib.Core.Path.ap (λ (t : Table). first (t i)) o.empty) ∙ e)) (rule_valid s.book (subst Valid (sym o.opened) valid) k a b).some_head ap.matches)

  pub covered_step : (s t : Config A B) (a : StepAnswer) → P.records s.table s.next ≡ [] → Good T P s → StepSays T P s a t → CoveredAt s → CoveredAt t
  covered_step s t a free good (ref.fails f) c = c
  covered_step s t a free good (ref.ends st e) c = c
  covered_step s t a free good (ref.tells p rest is st top w l tl ta b) c = covered_with s t (map wake is ++ rest) s.history (living P s) b.book b.waiting b.history (same_table s t ta) (told_covers s.book (meaning T s) (meaning T t) (tell p) rest is s.history (living P s) w tl.0 (λ v av. ((tl.1 (good.goals (tell p) (subst (λ z. goal (tell p) ∈ z) (sym top) here)) v).0 av).0) (subst (λ z. Covers s.book (meaning T s) z s.history (living P s)) top c))
  covered_step s t a free good (ref.crowded p rest is st top w l) c = c
  covered_step s t a free good (ref.activates x xs rest st top l r e f b) c = covered_with s t (active s.next 1 ∷ rest) s.history _ b.book b.waiting b.history (living_with P s t s.next (recorded x xs) free f) (subst (λ (z : A). Covers s.book (T.means z) (active s.next 1 ∷ rest) s.history (adding s.next (recorded x xs) (living P s))) (sym e) (added_covers s.book (meaning T s) (add x xs) rest s.history (living P s) s.next (recorded x xs) (subst (λ z. Covers s.book (meaning T s) z s.history (living P s)) top c)))
  covered_step s t a free good (ref.spent x xs rest st top l) c = c
  covered_step s t a free good (ref.packed x xs rest st top l r) c = c
  covered_step s t a free good (ref.rises i rest r st top f b) c = covered_waits s t (wake i ∷ rest) (active i 1 ∷ rest) top b (risen_covers s.book (meaning T s) i rest s.history (living P s)) c
  covered_step s t a free good (ref.late i rest st top f b) c = covered_waits s t (wake i ∷ rest) rest top b (late_covers s.book (meaning T s) i rest s.history (living P s) f) c
  covered_step s t a free good (ref.dead i j rest st top f b) c = covered_waits s t (active i j ∷ rest) rest top b (dead_covers s.book (meaning T s) i j rest s.history (living P s) f) c
  covered_step s t a free good (ref.over i j rest r st top f l b) c = covered_waits s t (active i j ∷ rest) rest top b (over_covers s.book (meaning T s) i j rest s.history (living P s) r f l) c
  covered_step s t a free good (ref.passes rest i j k h turn nf b) c = covered_waits s t (active i j ∷ rest) (active i (suc j) ∷ rest) turn.top b (passed_covers s.book (meaning T s) rest i j k h s.history (living P s) turn.record_of turn.alive turn.occurs.2 (λ tuple y z n. nf tuple (record { applies = y; at = z; new = n }))) c
  covered_step s t a free good (ref.fires rest i j k h tuple turn fit nh small room made ta b) c = covered_with s t _ _ (survivors (gone (rule_at s.book k) tuple) (living P s)) b.book b.waiting b.history (living_without P s t (gone (rule_at s.book k) tuple) ta) (fired_covers s.book (meaning T s) (meaning T t) _ rest s.history (living P s) i j k h tuple made.1 (known_slots s.book (meaning T s).made (survivors (gone (rule_at s.book k) tuple) (living P s)) (λ y r e. good.records y r (survivor (gone (rule_at s.book k) tuple) (living P s) y r e).1)) at_head fit.fits.at (subst (λ z. Covers s.book (meaning T s) z s.history (living P s)) turn.top c))
    where
      at_head : h < length tuple
      at_head = subst (λ (n : ℕ). h < n) (sym (matches_length (living P s) (heads (rule_at s.book k)) tuple fit.fits.applies.matches)) (turn_bounds T P s rest i j k h turn).2
  covered_step s t a free good (ref.full_history rest i j k h tuple turn fit nh) c = c
  covered_step s t a free good (ref.full_variables rest i j k h tuple turn fit nh l) c = c
  covered_step s t a free good (ref.full_waiting rest i j k h tuple turn fit nh l m) c = c

  pub covered_variable : (s t : Config A B) (x : ℕ) → Good T P s → VariableSays T s (Ok x) t → CoveredAt s → CoveredAt t
  covered_variable s t x good (ref.makes l m ta bo wa hi po ne) c = covered_with s t s.waiting s.history (living P s) bo wa hi (same_table s t ta) (made_covers s.book (meaning T s) (meaning T t) s.waiting s.history (living P s) m.1 (known_slots s.book (meaning T s).made (living P s) good.records) c)

  pub covered_post : (s t : Config A B) (kind symbol : ℕ) (xs : List Operand) → PostSays T s kind symbol xs (Ok tt) t → CoveredAt s → CoveredAt t
  covered_post s t kind symbol xs (ref.posts g y ps l e b) c = covered_waits s t s.waiting (s.waiting ++ (goal g ∷ [])) refl b (more_covers s.book (meaning T s) s.waiting (s.waiting ++ (goal g ∷ [])) s.history (living P s) (λ z k. mem_left (goal g ∷ []) k)) c

  recorded_same : (es fs : List Event) (s t : Config A B) → t.history ≡ s.history → RecordedAt es s → RecordedAt (es ++ fs) t
  recorded_same es fs s t e r f m = subst (λ z. f ∈ z) (sym (firings_more es fs)) (mem_left (firings fs) (r f (subst (λ z. f ∈ z) e m)))

  pub recorded_step : (es : List Event) (s t : Config A B) (a : StepAnswer) (ps : List (Primitive Operand)) → StepSays T P s a t → RecordedAt es s → RecordedAt (es ++ (stepped a ps ∷ [])) t
  recorded_step es s t a ps (ref.fails f) r = recorded_same es _ s s refl r
  recorded_step es s t a ps (ref.ends st e) r = recorded_same es _ s s refl r
  recorded_step es s t a ps (ref.tells p rest is st top w l tl ta b) r = recorded_same es _ s t b.history r
  recorded_step es s t a ps (ref.crowded p rest is st top w l) r = recorded_same es _ s s refl r
  recorded_step es s t a ps (ref.activates x xs rest st top l q e f b) r = recorded_same es _ s t b.history r
  recorded_step es s t a ps (ref.spent x xs rest st top l) r = recorded_same es _ s s refl r
  recorded_step es s t a ps (ref.packed x xs rest st top l q) r = recorded_same es _ s s refl r
  recorded_step es s t a ps (ref.rises i rest q st top f b) r = recorded_same es _ s t b.becomes.history r
  recorded_step es s t a ps (ref.late i rest st top f b) r = recorded_same es _ s t b.becomes.history r
  recorded_step es s t a ps (ref.dead i j rest st top f b) r = recorded_same es _ s t b.becomes.history r
  recorded_step es s t a ps (ref.over i j rest q st top f l b) r = recorded_same es _ s t b.becomes.history r
  recorded_step es s t a ps (ref.passes rest i j k h turn nf b) r = recorded_same es _ s t b.becomes.history r
  recorded_step es s t a ps (ref.fires rest i j k h tuple turn fit nh small room made ta b) r = λ f m. subst (λ z. f ∈ z) (sym (firings_more es (stepped _ ps ∷ []))) (recorded_after (removes_nothing (rule_at s.book k)) s.history (firings es) k tuple (gone (rule_at s.book k) tuple) r f (subst (λ z. f ∈ z) b.history m))
  recorded_step es s t a ps (ref.full_history rest i j k h tuple turn fit nh) r = recorded_same es _ s s refl r
  recorded_step es s t a ps (ref.full_variables rest i j k h tuple turn fit nh l) r = recorded_same es _ s s refl r
  recorded_step es s t a ps (ref.full_waiting rest i j k h tuple turn fit nh l m) r = recorded_same es _ s s refl r

  pub recorded_variable : (es fs : List Event) (s t : Config A B) (x : ℕ) → VariableSays T s (Ok x) t → RecordedAt es s → RecordedAt (es ++ fs) t
  recorded_variable es fs s t x (ref.makes l m ta bo wa hi po ne) r = recorded_same es fs s t hi r

  pub recorded_post : (es fs : List Event) (s t : Config A B) (kind symbol : ℕ) (xs : List Operand) → PostSays T s kind symbol xs (Ok tt) t → RecordedAt es s → RecordedAt (es ++ fs) t
  recorded_post es fs s t kind symbol xs (ref.posts g y ps l e b) r = recorded_same es fs s t b.becomes.history r
