-- What the plain lists of a sheet hold, and what a change leaves. Assumes nothing.
use Rattle.std.specs.Prelude.{◌≡◌, ℕ, suc, Bool, false, List, [], vec_items, slice_index_or}
use Rattle.rules.specs.Books.{Goal}
use Rattle.terms.specs.declared.Operand.{Operand}
use Rattle.machine.specs.Matching.{Firing}
use Rattle.machine.specs.Sheets.{Entry}
use Rattle.lists.specs.declared.lists.Lists.{Lists}
use Rattle.lists.specs.Queues.{queued, can_wait}
use Rattle.lists.specs.Rooms.{firings_of}

-- what waits, the top first
abbrev pub waiting_of : Lists → List Entry
waiting_of l = queued l.waiting

-- what was applied, the oldest first
abbrev pub history_of : Lists → List Firing
history_of l = firings_of l.history.items

-- whether a variable was posted
abbrev pub posted_of : Lists → ℕ → Bool
posted_of l x = slice_index_or l.posted x false

-- the constraints that were found to be woken, at most 512
abbrev pub woken_of : Lists → List ℕ
woken_of l = vec_items l.woken.items

-- the waiting list, the history, the posted variables and the next identifier are those
pub record Holds (l : Lists) (w : List Entry) (h : List Firing) (p : ℕ → Bool) (n : ℕ) : Type 0 where
  pub waiting : waiting_of l ≡ w
  pub history : history_of l ≡ h
  pub posted : posted_of l ≡ p
  pub next : l.next ≡ n

-- nothing waits, nothing was applied or posted, and no identifier was given
abbrev pub Empty : Lists → Type 0
Empty l = Holds l [] [] (λ x. false) 1

-- nothing changes
abbrev pub Stays : Lists → Lists → Type 0
Stays a b = Holds b (waiting_of a) (history_of a) (posted_of a) a.next

-- only the waiting list changes
abbrev pub Waits : Lists → Lists → List Entry → Type 0
Waits a b w = Holds b w (history_of a) (posted_of a) a.next

-- only the history changes
abbrev pub Applied : Lists → Lists → List Firing → Type 0
Applied a b h = Holds b (waiting_of a) h (posted_of a) a.next

-- only the posted variables change
abbrev pub Posted : Lists → Lists → (ℕ → Bool) → Type 0
Posted a b p = Holds b (waiting_of a) (history_of a) p a.next

-- the waiting list changes, and the next identifier is used
abbrev pub Given : Lists → Lists → List Entry → Type 0
Given a b w = Holds b w (history_of a) (posted_of a) (suc a.next)

-- whether the goal can be put to what waits: fewer than 512 wait, and it is no constraint that a table does not take
abbrev pub takes_goal : Lists → Goal Operand → Bool
takes_goal l g = can_wait l.waiting g
