-- What the members or elements of a type take of a pattern.
use Rattle.std.specs.Prelude.{◌≡◌, ℕ, ◌*◌, Bool, ◌&&◌, ◌||◌, ◌==◌, nat_lt, not, List, length, map, filter, Option, Some, None, Result, Ok, Err}
use Rattle.sv_types.specs.declared.types.SvType.{SvType}
use Rattle.pattern_fit.specs.declared.pattern.PatternItem.{PatternItem}
use Rattle.pattern_fit.specs.declared.pattern.Pattern as Q
use Rattle.pattern_fit.specs.declared.pattern.FitFail.{FitFail}
use Rattle.pattern_fit.specs.declared.pattern.FitFail.TheVariants as F
use Rattle.expr_type.specs.declared.halt.Halt.{Halt}
use Rattle.expr_type.specs.declared.halt.Halt.TheVariants as H
use Rattle.expr_type.specs.Answers.{HaltsBy, reason}
use Rattle.expr_type.specs.Breaks.{At}
use Rattle.expr_type.specs.Names.{Source, position}
use Rattle.expr_type.specs.Patterns.{all_keys, defaults, keyed, rest_of, taken_by, types_in}
use Rattle.expr_type.specs.Typings.{Checked, where_whole, all_of}
use Rattle.pattern_types.specs.declared.operand.ItemKey.{ItemKey}
use Rattle.pattern_types.specs.Meaning.{Parts}
use Rattle.pattern_types.specs.declared.takes.Taking.{Taking}
use Rattle.pattern_types.specs.Meaning.{Pattern, is_default, item_keys, items_in, key_of, keys_of, parts_of, pattern_of, written_items}
use Rattle.pattern_types.specs.Places.{default_from}

abbrev pub or_unfit : Source → ℕ → Option (List PatternItem) → Checked (List PatternItem)
or_unfit k tick None = Err (At (position k tick) 505)
or_unfit k tick (Some takes) = Ok takes

-- what each of them takes, or E505
abbrev pub takes_in : Source → Pattern → SvType → Checked (List PatternItem)
takes_in k p t = where_whole (all_of (map (key_of k t) (keys_of p.items))) (λ ks. or_unfit k p.tick (taken_by t (parts_of p) (all_keys ks)))

abbrev pub default_keys : List ItemKey → List ItemKey
default_keys keys = filter is_default keys

-- a repeated pattern has as many items as its type has members or elements, and `default` stands at most once
abbrev pub counts_fit : SvType → ℕ → List ItemKey → Bool
counts_fit t times keys = ((times == 1) || (times * length keys == length (types_in t))) && not (nat_lt 1 (length (default_keys keys)))

pub record IsTaking (k : Source) (p : Parts) (t : SvType) (taking : Taking) : Type 0 where
  pub takes : takes_in k (pattern_of k p) t ≡ Ok taking.takes
  pub rest : taking.rest ≡ rest_of (defaults (written_items k (items_in p)))
  pub default : taking.default ≡ default_from 0 (item_keys (items_in p))
  pub count : taking.count ≡ length (keyed (written_items k (items_in p)))

abbrev pub TakesGive : Source → Parts → SvType → Result Taking Halt → Type 0
TakesGive k p t (Ok taking) = IsTaking k p t taking
TakesGive k p t (Err h) = HaltsBy h (reason (takes_in k (pattern_of k p) t))

-- why nothing is taken
abbrev pub halt_of : ℕ → FitFail → Halt
halt_of tick F.Memory = H.Memory
halt_of tick F.NoFit = H.Breaks tick 505

abbrev pub taken_of : ℕ → Q.Pattern → Option ℕ → ℕ → Result (List PatternItem) FitFail → Result Taking Halt
taken_of tick p default count (Ok takes) = Ok (record { rest = p.rest; default = default; count = count; takes = takes })
taken_of tick p default count (Err fail) = Err (halt_of tick fail)
