-- Runs of changes: at most one record under each identifier, and two tables alike.
use Rattle.std.proofs.Common.{◌≡◌, ℕ, ◌+◌, ◌<◌, ◌≤◌, Bool, true, false, cond, ◌&&◌, eqb, ltb, List, [], ◌∷◌, length, get_or, drop, vec_items, Ok, Err, Result, sym, refl, ap, ◌∙◌, subst, arith}
use Rattle.std.proofs.lemmas.List.{at_drop_more, at_drop_all}
use Rattle.std.proofs.lemmas.Bool.{and_parts, both_ways}
use Rattle.table.specs.Lists.{is_none, memberb}
use Rattle.table.specs.Records.{Record, recorded, fit}
use Rattle.table.specs.Tables.{Table, size, nothing, with_record, without, judged, put_answer, put_after}
use Rattle.table.specs.declared.put.PutRefusal.{PutRefusal}
use Rattle.table.specs.NextsLemmas.{least_one}
use Rattle.tablelaws.specs.Changes.{changed, changed_all, not_full, finds_room, all_find_room, AtMostOne, NextAlike}
use Rattle.tablelaws.specs.declared.changes.Change.{Change}
use Rattle.tablelaws.specs.declared.changes.Change.TheVariants as change

-- at most one stays at most one
single_with : (t : Table) (n : ℕ) (r : Record) → AtMostOne t → AtMostOne (with_record t n r)
single_with t n r h i = go (eqb n i) (is_none (t n))
  where
    go : (b e : Bool) → length (cond b (cond e (r ∷ []) (t n)) (t i)) ≤ 1
    go true true = omega arith
    go true false = h n
    go false e = h i

single_without : (t : Table) (gone : List ℕ) → AtMostOne t → AtMostOne (without t gone)
single_without t gone h i = go (memberb i gone)
  where
    go : (b : Bool) → length (cond b [] (t i)) ≤ 1
    go true = omega arith
    go false = h i

single_put : (t : Table) (n : ℕ) (r : Record) (a : Result (Unit {0}) PutRefusal) → AtMostOne t → AtMostOne (put_after t n r a)
single_put t n r (Ok done) h = single_with t n r h
single_put t n r (Err refusal) h = h

single_changed : (limit : ℕ) (c : Change) (t : Table) → AtMostOne t → AtMostOne (changed limit c t)
single_changed limit change.Clear t h = λ i. omega arith
single_changed limit (change.Put n s xs) t h = single_put t n (recorded s (vec_items xs)) (put_answer t limit n (recorded s (vec_items xs))) h
single_changed limit (change.Remove n) t h = single_without t (n ∷ []) h

single_all : (limit : ℕ) (cs : List Change) (t : Table) → AtMostOne t → AtMostOne (changed_all limit cs t)
single_all limit [] t h = h
single_all limit (c ∷ cs) t h = single_all limit cs (changed limit c t) (single_changed limit c t h)

pub single_nothing : (limit : ℕ) (cs : List Change) → AtMostOne (changed_all limit cs nothing)
single_nothing limit cs = single_all limit cs nothing (λ i. omega arith)

-- where neither is full, the answer is the same whatever the limits
same_answer : (f e x y : Bool) → not_full (judged f e x) ≡ true → not_full (judged f e y) ≡ true → judged f e x ≡ judged f e y
same_answer false e x y p q = refl
same_answer true false x y p q = refl
same_answer true true false y p q = absurd (both_ways false refl p)
same_answer true true true false p q = absurd (both_ways false refl q)
same_answer true true true true p q = refl

same_changed : (l m : ℕ) (c : Change) (t : Table) → finds_room l c t ≡ true → finds_room m c t ≡ true → changed l c t ≡ changed m c t
same_changed l m change.Clear t p q = refl
same_changed l m (change.Put n s xs) t p q =
    let r = recorded s (vec_items xs) in
    ap (put_after t n r) (same_answer (fit n r) (is_none (t n)) (ltb (size t) l) (ltb (size t) m) p q)
same_changed l m (change.Remove n) t p q = refl

same_all : (l m : ℕ) (cs : List Change) (t : Table) → all_find_room l cs t ≡ true → all_find_room m cs t ≡ true → changed_all l cs t ≡ changed_all m cs t
same_all l m [] t p q = refl
same_all l m (c ∷ cs) t p q =
    let a = and_parts _ _ p in
    let b = and_parts _ _ q in
    let e = same_changed l m c t a.0 b.0 in
    ap (changed_all l cs) e ∙ same_all l m cs (changed m c t) (subst (λ u. all_find_room l cs u ≡ true) e a.1) b.1

pub nexts_alike : (l m : ℕ) (cs : List Change) (t u : Table) → t ≡ changed_all l cs nothing → u ≡ changed_all m cs nothing → all_find_room l cs nothing ≡ true → all_find_room m cs nothing ≡ true → NextAlike t u
nexts_alike l m cs t u e f p q =
    let same : u ≡ t = f ∙ sym (same_all l m cs nothing p q) ∙ sym e in
    subst (λ v. NextAlike t v) (sym same) (λ s k low a b x y. least_one _ low a b x y)

-- one change more of a run, and the whole
pub run_more : (limit : ℕ) (cs : List Change) (k : ℕ) (c : Change) (t u : Table) → k < length cs → c ≡ get_or cs k c → u ≡ changed limit c t → changed_all limit (drop (k + 1) cs) u ≡ changed_all limit (drop k cs) t
run_more limit cs k c t u l e h =
    ap (changed_all limit (drop (k + 1) cs)) (h ∙ ap (λ d. changed limit d t) e) ∙ sym (at_drop_more (λ ds. changed_all limit ds t) cs k c l)

pub rooms_more : (limit : ℕ) (cs : List Change) (k : ℕ) (c : Change) (t u : Table) (b found : Bool) → k < length cs → c ≡ get_or cs k c → u ≡ changed limit c t → found ≡ finds_room limit c t → ((b && found) && all_find_room limit (drop (k + 1) cs) u) ≡ (b && all_find_room limit (drop k cs) t)
rooms_more limit cs k c t u b found l e h f =
    and_assoc b found (all_find_room limit (drop (k + 1) cs) u)
    ∙ ap (λ x. b && x)
    (ap (λ x. x && all_find_room limit (drop (k + 1) cs) u) (f ∙ ap (λ d. finds_room limit d t) e)
    ∙ ap (λ v. finds_room limit (get_or cs k c) t && all_find_room limit (drop (k + 1) cs) v) (h ∙ ap (λ d. changed limit d t) e)
    ∙ sym (at_drop_more (λ ds. all_find_room limit ds t) cs k c l))
  where
    and_assoc : (x y z : Bool) → ((x && y) && z) ≡ (x && (y && z))
    and_assoc true y z = refl
    and_assoc false y z = refl

pub rooms_done : (limit : ℕ) (cs : List Change) (k : ℕ) (t : Table) (b : Bool) → length cs ≤ k → (b && all_find_room limit (drop k cs) t) ≡ b
rooms_done limit cs k t b l = ap (λ x. b && x) (at_drop_all (λ ds. all_find_room limit ds t) cs k l) ∙ go b
  where
    go : (x : Bool) → (x && true) ≡ x
    go true = refl
    go false = refl
