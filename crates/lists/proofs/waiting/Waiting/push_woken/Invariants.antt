use Rattle.std.proofs.Common.{◌≡◌, ℕ, ◌+◌, List, ◌++◌, map, length, deque_len}
use Rattle.machine.specs.Sheets.{wake}
use Rattle.lists.specs.Queues.{queued}
use Rattle.lists.proofs.waiting.Waiting.push_woken.Given as goal

abbrev pub invariant-loop-identifier : goal.invariant-loop-identifier
invariant-loop-identifier l =
    (done : List ℕ)
    × (l.woken ≡ l.identifier-iterator.iter.rest.now ++ done)
    × (queued l.self ≡ map wake done ++ queued l.initial.self)
    × (deque_len l.self.entries ≡ length done + deque_len l.initial.self.entries)
