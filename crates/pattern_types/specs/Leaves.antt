-- The types that take an item of a pattern.
use Rattle.std.specs.Prelude.{ℕ, suc, ◌%◌, Bool, true, false, ◌==◌, nat_lt, cond, List, [], ◌∷◌, map, flat_map, Some, None}
use Rattle.sv_types.specs.declared.types.Member.{Member}
use Rattle.sv_types.specs.declared.types.SvType.{SvType}
use Rattle.sv_types.specs.Layouts.{width_of}
use Rattle.pattern_fit.specs.declared.pattern.PatternItem.{PatternItem}
use Rattle.pattern_fit.specs.declared.pattern.PatternItem.TheVariants as I
use Rattle.pattern_fit.specs.declared.pattern.Rest.{Rest}
use Rattle.expr_type.specs.Patterns.{ItemKey, Taken, is_default, leaves, levels}
use Rattle.expr_type.specs.Shapes.{most_bits}
use Rattle.pattern_types.specs.declared.wanted.Wanted.{Wanted}
use Rattle.pattern_types.specs.declared.wanted.Wanted.TheVariants as W
use Rattle.pattern_laws.specs.Reasons.{Reason}
use Rattle.pattern_types.specs.Reasons.{break_at}

abbrev pub leaves_of : Rest → SvType → List SvType
leaves_of rest t = leaves (levels t) rest t

abbrev pub member_types : List Member → List SvType
member_types ms = map (λ (m : Member). m.of) ms

abbrev pub wanted_at : ItemKey → ℕ → Wanted
wanted_at key n = cond (is_default key) W.Default (W.Numbered n)

abbrev pub number_behind : Wanted → ℕ → ℕ
number_behind W.Default n = n
number_behind (W.Numbered m) n = suc n

-- whether what a member or element takes is the item
abbrev pub wants : Wanted → ℕ → PatternItem → Bool
wants W.Default count (I.Item m) = false
wants W.Default count I.Default = true
wants W.Default count I.Spread = true
wants (W.Numbered n) count (I.Item m) = m % count == n
wants (W.Numbered n) count I.Default = false
wants (W.Numbered n) count I.Spread = false

-- the types that an item is given to where a type takes it, and where some take it
abbrev pub wanted_in : Wanted → Rest → SvType → List SvType
wanted_in W.Default rest t = leaves_of rest t
wanted_in (W.Numbered n) rest t = t ∷ []

abbrev pub wanted_types : Wanted → ℕ → Rest → List Taken → List SvType
wanted_types wanted count rest ps = flat_map (λ (p : Taken). cond (wants wanted count p.0) (wanted_in wanted rest p.1) []) ps

-- what is whole may have at most 65,536 bits
abbrev pub length_behind : Reason → ℕ → SvType → Reason
length_behind None tick t = cond (nat_lt most_bits (width_of t)) (Some (Some (break_at tick 701))) None
length_behind (Some b) tick t = Some b
