-- The rules of `inside` come before what is made of its parts.
use Rattle.std.proofs.Common.{◌≡◌, ◌||◌, ℕ, Bool, true, false, map, List, [], ◌∷◌, Option, Some, None, refl, sym, ap, ◌∙◌}
use Rattle.std.specs.Prelude.{Ok, flat_map}
use Rattle.std.specs.List.{list_any}
use Rattle.expr_type.specs.declared.halt.Halt.{Halt}
use Rattle.expr_type.specs.declared.halt.Halt.TheVariants as H
use Rattle.expr_type.specs.declared.operand.Valued.{Valued}
use Rattle.expr_type.specs.Answers.{Break, HaltsBy, reason}
use Rattle.expr_type.specs.Breaks.{Breaks, Position}
use Rattle.expr_type.specs.Names.{Source, position}
use Rattle.expr_type.specs.Operators as O
use Rattle.expr_type.specs.Operators.{by_itself, choice, in_alternative, inside_of}
use Rattle.expr_type.specs.Shapes.{is_unpacked, one_bit}
use Rattle.expr_type.specs.Typings.{Checked, and_at, at_all, refused, unless}
use Rattle.sv_types.specs.declared.expression.Form.TheVariants as F
use Rattle.inside_types.specs.declared.alternatives.Alternative.{Alternative}
use Rattle.inside_types.specs.declared.alternatives.Alternative.TheVariants.{Only, Between}
use Rattle.inside_types.specs.Alternatives.{alternative, any_unpacked, first_of}
use Rattle.inside_types.specs.Insides.{inside_rule, made, wide_inside}

abbrev done : Unit {0}
done = tt

abbrev fine : Checked (Unit {0})
fine = Ok tt

abbrev unpacked : Valued → Bool
unpacked v = is_unpacked v.expr.of

or-assoc : (a b c : Bool) → (a || (b || c)) ≡ ((a || b) || c)
or-assoc true b c = refl
or-assoc false b c = refl

-- what is unpacked among the operands is so in an item
any-operands : (as' : List Alternative) → any_unpacked as' ≡ list_any unpacked (flat_map in_alternative (map alternative as'))
any-operands [] = refl
any-operands (Only v ∷ as') = ap (λ b. unpacked v || b) (any-operands as')
any-operands (Between low high ∷ as') =
    sym (or-assoc (unpacked low) (unpacked high) (any_unpacked as')) ∙ ap (λ b. unpacked low || (unpacked high || b)) (any-operands as')

abbrev rule_by : Bool → Position → Option Breaks → Checked (Unit {0})
rule_by b p o = refused b p 508 (unless o done)

rule-is : (k : Source) (at : ℕ) (v : Valued) (as' : List Alternative)
    → inside_rule k at v (map alternative as') ≡ rule_by (unpacked v || any_unpacked as') (position k at) (at_all k.instance 502 (wide_inside at v (map alternative as')))
rule-is k at v as' =
    ap (λ b. rule_by (unpacked v || b) (position k at) (at_all k.instance 502 (wide_inside at v (map alternative as')))) (sym (any-operands as'))

none-all : (i : ℕ) (ats : List ℕ) → first_of ats ≡ None → at_all i 502 ats ≡ None
none-all i [] e = refl
none-all i (t ∷ ts) e = cc

some-all : (i at : ℕ) (ats : List ℕ) → first_of ats ≡ Some at → reason (unless (at_all i 502 ats) done) ≡ Some (Some (record { at = at; rule = 502 }))
some-all i at [] e = cc
some-all i at (t ∷ ts) e = by (at_all i 502 ts) ∙ ap (λ n. Some (Some (record { at = n; rule = 502 }))) h
  where
    h : t ≡ at
    h = cc

    by : (o : Option Breaks) → reason (unless (and_at (record { instance = i; at = t }) 502 o) done) ≡ Some (Some (record { at = t; rule = 502 }))
    by None = refl
    by (Some b) = refl

first-rule : (b : Bool) (p : Position) (o : Option Breaks) → b ≡ true → reason (rule_by b p o) ≡ Some (Some (record { at = p.at; rule = 508 }))
first-rule true p o e = refl
first-rule false p o e = cc

second-rule : (b : Bool) (p : Position) (o : Option Breaks) → b ≡ false → rule_by b p o ≡ unless o done
second-rule true p o e = cc
second-rule false p o e = refl

pub unpacked-breaks : (k : Source) (at : ℕ) (v : Valued) (as' : List Alternative) → (unpacked v || any_unpacked as') ≡ true
    → reason (inside_rule k at v (map alternative as')) ≡ Some (Some (record { at = at; rule = 508 }))
unpacked-breaks k at v as' e =
    ap reason (rule-is k at v as') ∙ first-rule (unpacked v || any_unpacked as') (position k at) (at_all k.instance 502 (wide_inside at v (map alternative as'))) e

pub wide-breaks : (k : Source) (at wide : ℕ) (v : Valued) (as' : List Alternative) → (unpacked v || any_unpacked as') ≡ false
    → first_of (wide_inside at v (map alternative as')) ≡ Some wide
    → reason (inside_rule k at v (map alternative as')) ≡ Some (Some (record { at = wide; rule = 502 }))
wide-breaks k at wide v as' e f =
    let o = at_all k.instance 502 (wide_inside at v (map alternative as')) in
    ap reason (rule-is k at v as' ∙ second-rule (unpacked v || any_unpacked as') (position k at) o e)
    ∙ some-all k.instance wide (wide_inside at v (map alternative as')) f

pub none-breaks : (k : Source) (at : ℕ) (v : Valued) (as' : List Alternative) → (unpacked v || any_unpacked as') ≡ false
    → first_of (wide_inside at v (map alternative as')) ≡ None → inside_rule k at v (map alternative as') ≡ fine
none-breaks k at v as' e f =
    let o = at_all k.instance 502 (wide_inside at v (map alternative as')) in
    rule-is k at v as' ∙ second-rule (unpacked v || any_unpacked as') (position k at) o e
    ∙ ap (λ (b : Option Breaks). unless b done) (none-all k.instance (wide_inside at v (map alternative as')) f)

-- what stops for no reason wants memory
none-stops : (h : Halt) (r : Option (Option Break)) → HaltsBy h None → HaltsBy h r
none-stops H.Memory r s = tt
none-stops (H.Breaks at rule) r s = cc
none-stops H.Quiet r s = cc

whole-behind : (b : Bool) (p : Position) (o : Option Breaks) (x : Valued) → rule_by b p o ≡ fine → refused b p 508 (unless o x) ≡ Ok x
whole-behind true p o x e = cc
whole-behind false p None x e = refl
whole-behind false p (Some c) x e = cc

halts-behind : (h : Halt) (b : Bool) (p : Position) (o : Option Breaks) (x : Valued) → HaltsBy h (reason (rule_by b p o)) → HaltsBy h (reason (refused b p 508 (unless o x)))
halts-behind h true p o x s = s
halts-behind h false p None x s = none-stops h (reason (Ok x)) s
halts-behind h false p (Some c) x s = s

abbrev whole : Source → Valued → List O.Alternative → Valued
whole k v bs = by_itself k v.begins one_bit (F.Inside v.expr (map choice bs))

pub inside-whole : (k : Source) (at : ℕ) (v : Valued) (bs : List O.Alternative) → inside_rule k at v bs ≡ fine → inside_of k at v bs ≡ made k v bs
inside-whole k at v bs e =
    whole-behind (list_any unpacked (v ∷ flat_map in_alternative bs)) (position k at) (at_all k.instance 502 (wide_inside at v bs)) (whole k v bs) e

pub inside-halts : (h : Halt) (k : Source) (at : ℕ) (v : Valued) (bs : List O.Alternative) → HaltsBy h (reason (inside_rule k at v bs)) → HaltsBy h (reason (inside_of k at v bs))
inside-halts h k at v bs s =
    halts-behind h (list_any unpacked (v ∷ flat_map in_alternative bs)) (position k at) (at_all k.instance 502 (wide_inside at v bs)) (whole k v bs) s

pub ruleset behind = (inside-whole, inside-halts)
