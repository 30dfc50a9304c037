-- What it is to read a part of a file. Assumes nothing.
use Rattle.std.specs.Prelude.{◌≡◌, ℕ, ◌⊎◌, List, drop, Ok, Err, Result}
use Rattle.rules.specs.declared.LoadRefusal.{LoadRefusal}
use Rattle.rules.specs.declared.LoadRefusal.TheVariants.{NoMemory}
use Rattle.rules.specs.Parse.{Outcome, Parser, got, refused}
use Rattle.rulereader.specs.declared.reader.Reader.{Reader}

-- the bytes that are not read yet
abbrev pub ahead : Reader → List ℕ
ahead r = drop r.pos r.src.now

-- what a parser says where a reader stands
abbrev pub run : {A : Type 0} → Parser A → Reader → Outcome A
run p r = p r.pos (ahead r)

-- a reader of the same file stands after what p got
abbrev pub Passed : {A : Type 0} → Parser A → Reader → A → Reader → Type 0
Passed p a x b = (b.src.now ≡ a.src.now) × (run p a ≡ got x b.pos (ahead b))

-- what p says of what the result means, and where the reader stands then
abbrev pub ReadsAs : {A B : Type 0} → (B → A) → Parser A → Reader → Result B LoadRefusal → Reader → Type 0
ReadsAs view p a (Ok x) b = Passed p a (view x) b
ReadsAs view p a (Err e) b = run p a ≡ refused e

-- the same of a result that means itself
abbrev pub Reads : {A : Type 0} → Parser A → Reader → Result A LoadRefusal → Reader → Type 0
Reads p a (Ok x) b = Passed p a x b
Reads p a (Err e) b = run p a ≡ refused e

-- what p says of what the result means, of a call that may want memory
abbrev pub Loads : {A B : Type 0} → (B → A) → Parser A → Reader → Result B LoadRefusal → Reader → Type 0
Loads view p a (Ok x) b = Passed p a (view x) b
Loads view p a (Err e) b = (run p a ≡ refused e) ⊎ (e ≡ NoMemory)
