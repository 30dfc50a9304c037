-- A call that ends in another: what is read by the first and then by the second.
use Rattle.std.proofs.Common.{◌≡◌, Ok, Err, Result, ◌∙◌, inl, inr, ⊎_elim}
use Rattle.rules.specs.Parse.{Parser}
use Rattle.rules.specs.declared.LoadRefusal.{LoadRefusal}
use Rattle.rulereader.specs.declared.reader.Reader.{Reader}
use Rattle.rulereader.specs.Reads.{run, Loads}

pub loads_on : {A B : Type 0} (view : B → A) (p q : Parser A) (a b c : Reader) (r : Result B LoadRefusal) → b.src.now ≡ a.src.now → run p a ≡ run q b →
    Loads view q b r c → Loads view p a r c
loads_on view p q a b c (Ok x) s e h = (h.0 ∙ s, e ∙ h.1)
loads_on view p q a b c (Err x) s e h = ⊎_elim (λ f. inl (e ∙ f)) inr h
