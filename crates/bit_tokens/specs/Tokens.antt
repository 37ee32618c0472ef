-- The least tokens of some uses.
use Rattle.std.specs.Prelude.{◌≡◌, ℕ, ◌≤◌, ◌<◌, min, true, false, List, Option, Some, None}
use Rattle.row_machine.specs.Valuation.{Member}
use Rattle.bit_sets.specs.declared.span.Span.{Span}
use Rattle.bit_sets.specs.declared.span.Use.{Use}
use Rattle.bit_sets.specs.Sets.{covers, in_spans}

abbrev pub with_token : Option ℕ → ℕ → Option ℕ
with_token None at = Some at
with_token (Some t) at = Some (min t at)

-- a use of some kind, and its token
pub record UseOf (P : Use → Type 0) (us : List Use) (at : ℕ) : Type 0 where
  pub use_of : Use
  pub stands : Member us use_of
  pub is_one : P use_of
  pub token : use_of.at ≡ at

-- the least token of the uses of some kind
pub record IsLeastAt (P : Use → Type 0) (us : List Use) (at : ℕ) : Type 0 where
  pub there : UseOf P us at
  pub least : (u : Use) → Member us u → P u → at ≤ u.at

abbrev pub IsLeast : (Use → Type 0) → List Use → Option ℕ → Type 0
IsLeast P us None = (u : Use) → Member us u → P u → ⊥
IsLeast P us (Some at) = IsLeastAt P us at

abbrev pub HasSome : Use → Type 0
HasSome u = u.span.low < u.span.high

-- a number of a span that lies in a set
pub record Meets (set : List Span) (s : Span) : Type 0 where
  pub number : ℕ
  pub covered : covers s number ≡ true
  pub within : in_spans set number ≡ true

pub record Leaves (set : List Span) (s : Span) : Type 0 where
  pub number : ℕ
  pub covered : covers s number ≡ true
  pub without : in_spans set number ≡ false

abbrev pub Inside : List Span → Use → Type 0
Inside set u = Meets set u.span

abbrev pub Outside : List Span → Use → Type 0
Outside set u = Leaves set u.span
