-- Things in a row as they are made, one behind the other.
use Rattle.std.specs.Prelude.{◌≡◌, List, [], ◌∷◌, ◌++◌, map, Result, Ok, Err, Vec}
use Rattle.std.specs.declared.alloc.Global.{Global}
use Rattle.expr_type.specs.declared.halt.Halt.{Halt}
use Rattle.expr_type.specs.declared.halt.Halt.TheVariants as H

-- one more thing, or want of memory
abbrev pub Adds : {A : Type 0} → List A → Result (Vec A Global) Halt → Type 0
Adds as' (Ok w) = w.items ≡ as'
Adds as' (Err h) = h ≡ H.Memory

abbrev pub Follows : {A : Type 0} → Result (Vec A Global) Halt → Result A Halt → Result (Vec A Global) Halt → Type 0
Follows (Ok v) (Ok a) r = Adds (v.items ++ a ∷ []) r
Follows (Ok v) (Err h) r = r ≡ Err h
Follows (Err H.Quiet) (Ok a) r = r ≡ Err H.Quiet
Follows (Err H.Quiet) (Err h) r = r ≡ Err h
Follows (Err H.Memory) next r = r ≡ Err H.Memory
Follows (Err (H.Breaks at rule)) next r = r ≡ Err (H.Breaks at rule)

-- things by what they mean
abbrev pub as_meant : {A B : Type 0} → (A → B) → Result A Halt → Result B Halt
as_meant f (Ok a) = Ok (f a)
as_meant f (Err h) = Err h

abbrev pub all_meant : {A B : Type 0} → (A → B) → Result (Vec A Global) Halt → Result (List B) Halt
all_meant f (Ok v) = Ok (map f v.items)
all_meant f (Err h) = Err h

-- things as they are
abbrev pub listed : {A : Type 0} → Result (Vec A Global) Halt → Result (List A) Halt
listed (Ok v) = Ok v.items
listed (Err h) = Err h
