-- Why something isn't whole, and which of two reasons counts.
use Rattle.std.specs.Prelude.{◌≡◌, Bool, ◌&&◌, ◌||◌, ◌==◌, nat_lt, cond, List, [], ◌∷◌, Option, Some, None}
use Rattle.sv_types.specs.declared.types.SvType.{SvType}
use Rattle.expr_type.specs.Answers.{Break, or_next, reason}
use Rattle.expr_type.specs.Names.{Source}
use Rattle.expr_type.specs.Operands.{Operand, passed}
use Rattle.expr_type.specs.Typings.{Checked}

-- none where it is whole, and else its first break, if it has one
abbrev pub Reason : Type 0
Reason = Option (Option Break)

-- of two breaks of one text the one at the first token, and there the one of the least rule
abbrev pub is_sooner : Break → Break → Bool
is_sooner a b = nat_lt a.at b.at || ((a.at == b.at) && nat_lt a.rule b.rule)

abbrev pub lesser_break : Option Break → Option Break → Option Break
lesser_break None b = b
lesser_break (Some a) None = Some a
lesser_break (Some a) (Some b) = Some (cond (is_sooner b a) b a)

abbrev pub lesser_reason : Reason → Reason → Reason
lesser_reason None r = r
lesser_reason (Some a) None = Some a
lesser_reason (Some a) (Some b) = Some (lesser_break a b)

abbrev pub lesser_tried : Option Reason → Option Reason → Option Reason
lesser_tried None r = r
lesser_tried (Some a) None = Some a
lesser_tried (Some a) (Some b) = Some (lesser_reason a b)

-- the first break of two parts in the order of the text
abbrev pub followed_by : Reason → Reason → Reason
followed_by None r = r
followed_by (Some a) None = Some a
followed_by (Some a) (Some b) = Some (or_next a b)

-- what a value shows where each of some types takes it, if there are any
abbrev pub tried_over : Source → Operand → List SvType → Option Reason
tried_over k v [] = None
tried_over k v (t ∷ ts) = lesser_tried (Some (reason (passed k t v))) (tried_over k v ts)

-- where none takes it, it is looked at by itself
abbrev pub or_alone : Reason → Option Reason → Reason
or_alone alone None = alone
or_alone alone (Some r) = r

-- it is whole
abbrev pub IsWhole : {A : Type 0} → Checked A → Type 0
IsWhole m = reason m ≡ None
