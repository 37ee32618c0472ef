-- Parts of one kind taken away leave those of another.
use Rattle.std.proofs.Common.{◌≡◌, List, refl}
use Rattle.std.proofs.lemmas.Bool.{false≢true}
use Rattle.v_tree.specs.declared.parts.VPart.{VPart}
use Rattle.v_tree.specs.declared.parts.VPart.TheVariants as P
use Rattle.v_tree.specs.Parts.{first_of, all_of, second_of, as_args, as_arms, as_binary_op, as_decimal, as_expr, as_extent, as_name, as_prim, as_right, as_sels, as_sign, as_unary_op}
use Rattle.v_parts.specs.Taking.{without}
use Rattle.v_parts.proofs.Apart.{Apart, kept-first, kept-all, second-first}

prim-right : Apart as_prim as_right
prim-right (P.Prim x) e = refl
prim-right p e = absurd (false≢true e)

prim-arms : Apart as_prim as_arms
prim-arms (P.Prim x) e = refl
prim-arms p e = absurd (false≢true e)

right-arms : Apart as_right as_arms
right-arms (P.Right a b) e = refl
right-arms p e = absurd (false≢true e)

unary_op-prim : Apart as_unary_op as_prim
unary_op-prim (P.UnaryOp x) e = refl
unary_op-prim p e = absurd (false≢true e)

binary_op-prim : Apart as_binary_op as_prim
binary_op-prim (P.BinaryOp x) e = refl
binary_op-prim p e = absurd (false≢true e)

name-args : Apart as_name as_args
name-args (P.Name x) e = refl
name-args p e = absurd (false≢true e)

name-sels : Apart as_name as_sels
name-sels (P.Name x) e = refl
name-sels p e = absurd (false≢true e)

args-sels : Apart as_args as_sels
args-sels (P.Args x) e = refl
args-sels p e = absurd (false≢true e)

sign-expr : Apart as_sign as_expr
sign-expr (P.Sign x) e = refl
sign-expr p e = absurd (false≢true e)

extent-decimal : Apart as_extent as_decimal
extent-decimal (P.Extent x) e = refl
extent-decimal p e = absurd (false≢true e)

extent-expr : Apart as_extent as_expr
extent-expr (P.Extent x) e = refl
extent-expr p e = absurd (false≢true e)

decimal-expr : Apart as_decimal as_expr
decimal-expr (P.Decimal x) e = refl
decimal-expr p e = absurd (false≢true e)

pub first-prim-right : (ps : List VPart) → first_of as_right (without as_prim ps) ≡ first_of as_right ps
first-prim-right = kept-first as_prim as_right prim-right

pub first-prim-arms : (ps : List VPart) → first_of as_arms (without as_prim ps) ≡ first_of as_arms ps
first-prim-arms = kept-first as_prim as_arms prim-arms

pub first-right-arms : (ps : List VPart) → first_of as_arms (without as_right ps) ≡ first_of as_arms ps
first-right-arms = kept-first as_right as_arms right-arms

pub first-unary_op-prim : (ps : List VPart) → first_of as_prim (without as_unary_op ps) ≡ first_of as_prim ps
first-unary_op-prim = kept-first as_unary_op as_prim unary_op-prim

pub first-binary_op-prim : (ps : List VPart) → first_of as_prim (without as_binary_op ps) ≡ first_of as_prim ps
first-binary_op-prim = kept-first as_binary_op as_prim binary_op-prim

pub first-name-args : (ps : List VPart) → first_of as_args (without as_name ps) ≡ first_of as_args ps
first-name-args = kept-first as_name as_args name-args

pub first-name-sels : (ps : List VPart) → first_of as_sels (without as_name ps) ≡ first_of as_sels ps
first-name-sels = kept-first as_name as_sels name-sels

pub first-args-sels : (ps : List VPart) → first_of as_sels (without as_args ps) ≡ first_of as_sels ps
first-args-sels = kept-first as_args as_sels args-sels

pub first-sign-expr : (ps : List VPart) → first_of as_expr (without as_sign ps) ≡ first_of as_expr ps
first-sign-expr = kept-first as_sign as_expr sign-expr

pub first-extent-decimal : (ps : List VPart) → first_of as_decimal (without as_extent ps) ≡ first_of as_decimal ps
first-extent-decimal = kept-first as_extent as_decimal extent-decimal

pub first-extent-expr : (ps : List VPart) → first_of as_expr (without as_extent ps) ≡ first_of as_expr ps
first-extent-expr = kept-first as_extent as_expr extent-expr

pub first-decimal-expr : (ps : List VPart) → first_of as_expr (without as_decimal ps) ≡ first_of as_expr ps
first-decimal-expr = kept-first as_decimal as_expr decimal-expr

pub all-decimal-expr : (ps : List VPart) → all_of as_expr (without as_decimal ps) ≡ all_of as_expr ps
all-decimal-expr = kept-all as_decimal as_expr decimal-expr

pub second-prim : (ps : List VPart) → first_of as_prim (without as_prim ps) ≡ second_of as_prim ps
second-prim = second-first as_prim

pub ruleset kept = (first-prim-right, first-prim-arms, first-right-arms, first-unary_op-prim, first-binary_op-prim, first-name-args, first-name-sels, first-args-sels, first-sign-expr, first-extent-decimal, first-extent-expr, first-decimal-expr, all-decimal-expr, second-prim)
