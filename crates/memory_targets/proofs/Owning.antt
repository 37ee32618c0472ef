-- Targets in a word are the memory's name with the word's select, and with those of the targets in the word alone.
use Rattle.std.proofs.Common.{ℕ, List, [], ◌∷◌, Result, Ok, Err, IfOk, refl, ap, ◌∙◌}
use Rattle.std.specs.declared.alloc.AllocError.{AllocError}
use Rattle.v_tree.specs.Names.{Name}
use Rattle.v_tree.specs.declared.statements.VLval.TheVariants as L
use Rattle.target_flatten.specs.declared.writes.Write.{Write}
use Rattle.target_flatten.specs.Owning.{IsOwn}
use Rattle.memory_targets.specs.declared.words.Word.{Word}
use Rattle.memory_targets.specs.Names.{NamedInWord}
use Rattle.memory_targets.specs.Owning.{IsOwnInWord, OwnInWord}
use Rattle.memory_targets.specs.Pieces.{InWord, AllInWord}
use Rattle.memory_targets.proofs.Named.{words-named}

own-in : (name : Name) (bits : ℕ) (w : Word) (x y : Write) → IsOwn name bits x.to → InWord w x y → IsOwnInWord name bits w y.to
own-in name bits w x y own h =
    let r = h.to name own.sels own.is in
    record { sel = r.behind.sel; word = r.behind.word; behind = own.sels; is = r.is ∙ ap (L.Name name) r.behind.is; few = own.few; bare = own.bare }

all-own : (w : Word) (xs ys : List Write) → AllInWord w xs ys → OwnInWord w xs ys
all-own w [] [] h name bits own = tt
all-own w [] (y ∷ ys) h name bits own = absurd h
all-own w (x ∷ xs) [] h name bits own = absurd h
all-own w (x ∷ xs) (y ∷ ys) h name bits own = (own-in name bits w x y own.0 h.0, all-own w xs ys h.1 name bits own.1)

all-named : (w : Word) (xs ys : List Write) → AllInWord w xs ys → NamedInWord w xs ys
all-named w [] [] h name bits own sc = refl
all-named w [] (y ∷ ys) h name bits own sc = absurd h
all-named w (x ∷ xs) [] h name bits own sc = absurd h
all-named w (x ∷ xs) (y ∷ ys) h name bits own sc = words-named w name bits x xs y ys sc own h

-- if there are any
pub own-if : (w : Word) (xs : List Write) (r : Result (List Write) AllocError) → IfOk r (AllInWord w xs) → IfOk r (OwnInWord w xs)
own-if w xs (Ok ys) h = all-own w xs ys h
own-if w xs (Err e) h = tt

pub named-if : (w : Word) (xs : List Write) (r : Result (List Write) AllocError) → IfOk r (AllInWord w xs) → IfOk r (NamedInWord w xs)
named-if w xs (Ok ys) h = all-named w xs ys h
named-if w xs (Err e) h = tt

pub ruleset owning = (own-if, named-if)
