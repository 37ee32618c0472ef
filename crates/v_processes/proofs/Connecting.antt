-- Expressions that outputs are connected to, form by form.
use Rattle.std.proofs.Common.{◌≡◌, ℕ, suc, ◌<◌, Bool, true, false, List, [], ◌∷◌, ◌++◌, length, drop, get_or, map, Option, Some, None, refl, sym, ap, ◌∙◌, append_assoc}
use Rattle.std.proofs.Math.Seq.{drop-cons}
use Rattle.std.specs.List.{list_all}
use Rattle.std.proofs.lemmas.List.{append-nil, map_push}
use Rattle.std.proofs.lemmas.List.Folds.{list_all-map}
use Rattle.b4_core.specs.declared.bit.Bit4.{Bit4}
use Rattle.v_tree.specs.Names.{Name}
use Rattle.v_tree.specs.declared.expressions.VExpr.{VExpr}
use Rattle.v_tree.specs.declared.expressions.VExpr.TheVariants as E
use Rattle.v_tree.specs.declared.expressions.VExtent.{VExtent}
use Rattle.v_tree.specs.declared.expressions.VPrim.{VPrim}
use Rattle.v_tree.specs.declared.expressions.VPrim.TheVariants as O
use Rattle.v_tree.specs.declared.expressions.VSel.{VSel}
use Rattle.v_tree.specs.declared.expressions.VSel.TheVariants as S
use Rattle.v_tree.specs.declared.operators.VBinaryOp.{VBinaryOp}
use Rattle.v_tree.specs.declared.operators.VUnaryOp.{VUnaryOp}
use Rattle.v_tree.specs.declared.statements.VLval.{VLval}
use Rattle.v_tree.specs.declared.statements.VLval.TheVariants as G
use Rattle.v_expr_rules.proofs.Levels as L
use Rattle.v_footprints.proofs.Levels as K
use Rattle.v_meaning.specs.Values.{expr_step, prim_step, sel_step, sel_meaning}
use Rattle.v_meaning.specs.Statements.{target, lval_step, name_target, joined_target}
use Rattle.v_meaning.specs.Modules.{all_some, over, connected_expr, connected_prim, connected_sel, as_target}
use Rattle.v_processes.specs.Connected.{connected_of_prim, connected_of_sel, behind, if_some}
use Rattle.v_processes.specs.Stems.{sel_decimal, is_decimal_sel, lval_decimal, is_decimal}

-- selects
pub decimal-is : (s : VSel) (base : ℕ) (extent : Option VExtent) → s ≡ S.Decimal base extent → over sel_meaning (Some (S.Decimal base extent)) ≡ connected_of_sel s
decimal-is s base extent is =
    ap Some (L.at-decimal expr_step prim_step sel_step base extent) ∙ sym (ap connected_of_sel is ∙ L.at-decimal connected_expr connected_prim connected_sel base extent)

pub moving-is : (s : VSel) (x : VExpr) (extent : Option VExtent) → s ≡ S.Expr x extent → None ≡ connected_of_sel s
moving-is s x extent is = sym (ap connected_of_sel is ∙ L.at-moving connected_expr connected_prim connected_sel x extent)

pub decimal-base : (base : ℕ) (extent : Option VExtent) → if_some is_decimal_sel (Some (S.Decimal base extent)) ≡ true
decimal-base base extent = L.at-decimal (λ e. false) (λ p. false) sel_decimal base extent

pub ruleset selects = (decimal-is, moving-is, decimal-base)

-- lists
module _ {A B C : Type 0} (f : A → B) (g : C → Option B) where
  -- what is left gives the rest
  pub next-some : (xs : List C) (i : ℕ) (x : C) (made new : List A) (a : A) (whole : Option (List B)) → i < length xs → x ≡ get_or xs i x → over f (Some a) ≡ g x → new ≡ made ++ a ∷ []
      → behind (map f made) (all_some (map g (drop i xs))) ≡ whole → behind (map f new) (all_some (map g (drop (suc i) xs))) ≡ whole
  next-some xs i x made new a whole low is one pushed so_far =
      by (all_some (map g (drop (suc i) xs))) refl
      ∙ ap (λ l. behind (map f made) (all_some (map g l))) (sym here)
      ∙ so_far
    where
      here : drop i xs ≡ x ∷ drop (suc i) xs
      here = drop-cons xs i x low ∙ ap (λ y. y ∷ drop (suc i) xs) (sym is)

      rest : Option (List B)
      rest = all_some (map g (drop (suc i) xs))

      grown : (ys : List B) → map f new ++ ys ≡ map f made ++ (f a ∷ ys)
      grown ys = ap (λ l. l ++ ys) (ap (map f) pushed ∙ map_push f made a) ∙ append_assoc (map f made) (f a ∷ []) ys

      by : (o : Option (List B)) → rest ≡ o → behind (map f new) o ≡ behind (map f made) (all_some (g x ∷ map g (drop (suc i) xs)))
      by None e = sym (ap (λ o. behind (map f made) (all_some (o ∷ map g (drop (suc i) xs)))) (sym one) ∙ ap (λ r. behind (map f made) (elim r [ None ↦ None | Some ys ↦ Some (f a ∷ ys) ])) e)
      by (Some ys) e =
          ap Some (grown ys)
          ∙ sym (ap (λ o. behind (map f made) (all_some (o ∷ map g (drop (suc i) xs)))) (sym one) ∙ ap (λ r. behind (map f made) (elim r [ None ↦ None | Some zs ↦ Some (f a ∷ zs) ])) e)

  -- one that is none
  pub none-some : (xs : List C) (i : ℕ) (x : C) (made : List A) (whole : Option (List B)) → i < length xs → x ≡ get_or xs i x → None ≡ g x
      → behind (map f made) (all_some (map g (drop i xs))) ≡ whole → None ≡ whole
  none-some xs i x made whole low is one so_far =
      ap (λ o. behind (map f made) (all_some (o ∷ map g (drop (suc i) xs)))) one
      ∙ ap (λ l. behind (map f made) (all_some (map g l))) (sym here) ∙ so_far
    where
      here : drop i xs ≡ x ∷ drop (suc i) xs
      here = drop-cons xs i x low ∙ ap (λ y. y ∷ drop (suc i) xs) (sym is)

  -- at the end
  pub all-made : (made : List A) → over (map f) (Some made) ≡ behind (map f made) (all_some (map g []))
  all-made made = ap Some (sym (append-nil (map f made)))

  pub none-made : (xs : List C) → behind (map f []) (all_some (map g xs)) ≡ all_some (map g xs)
  none-made xs = by (all_some (map g xs))
    where
      by : (o : Option (List B)) → behind [] o ≡ o
      by None = refl
      by (Some ys) = refl

-- operands
pub number-none : (p : VPrim) (bits : List Bit4) → p ≡ O.Number bits → None ≡ connected_of_prim p
number-none p bits is = sym (ap connected_of_prim is ∙ L.at-number connected_expr connected_prim connected_sel bits)

pub paren-none : (p : VPrim) (x : VExpr) → p ≡ O.Paren x → None ≡ connected_of_prim p
paren-none p x is = sym (ap connected_of_prim is ∙ L.at-paren connected_expr connected_prim connected_sel x)

pub call-none : (p : VPrim) (n : Name) (xs : List VExpr) → p ≡ O.Call n xs → None ≡ connected_of_prim p
call-none p n xs is = sym (ap connected_of_prim is ∙ L.at-call connected_expr connected_prim connected_sel n xs)

pub repeat-none : (p : VPrim) (count : ℕ) (xs : List VExpr) → p ≡ O.Repeat count xs → None ≡ connected_of_prim p
repeat-none p count xs is = sym (ap connected_of_prim is ∙ L.at-repeat connected_expr connected_prim connected_sel count xs)

pub sign-none : (p : VPrim) (s : Bool) (x : VExpr) → p ≡ O.Sign s x → None ≡ connected_of_prim p
sign-none p s x is = sym (ap connected_of_prim is ∙ L.at-sign connected_expr connected_prim connected_sel s x)

pub name-none : (p : VPrim) (n : Name) (ss : List VSel) → p ≡ O.Name n ss → None ≡ all_some (map connected_of_sel ss) → None ≡ connected_of_prim p
name-none p n ss is none = ap (over (name_target n)) none ∙ sym (ap connected_of_prim is ∙ L.at-name connected_expr connected_prim connected_sel n ss)

pub name-some : (p : VPrim) (n : Name) (ss made : List VSel) → p ≡ O.Name n ss → over (map sel_meaning) (Some made) ≡ all_some (map connected_of_sel ss) → over target (Some (G.Name n made)) ≡ connected_of_prim p
name-some p n ss made is some =
    ap Some (K.at-name lval_step n made) ∙ ap (over (name_target n)) some ∙ sym (ap connected_of_prim is ∙ L.at-name connected_expr connected_prim connected_sel n ss)

pub concat-none : (p : VPrim) (xs : List VExpr) → p ≡ O.Concat xs → None ≡ all_some (map as_target xs) → None ≡ connected_of_prim p
concat-none p xs is none = ap (over joined_target) none ∙ sym (ap connected_of_prim is ∙ L.at-concat connected_expr connected_prim connected_sel xs)

pub concat-some : (p : VPrim) (xs : List VExpr) (made : List VLval) → p ≡ O.Concat xs → over (map target) (Some made) ≡ all_some (map as_target xs) → over target (Some (G.Concat made)) ≡ connected_of_prim p
concat-some p xs made is some =
    ap Some (K.at-concat lval_step made) ∙ ap (over joined_target) some ∙ sym (ap connected_of_prim is ∙ L.at-concat connected_expr connected_prim connected_sel xs)

pub name-decimal : (n : Name) (made : List VSel) → if_some (list_all is_decimal_sel) (Some made) ≡ true → if_some is_decimal (Some (G.Name n made)) ≡ true
name-decimal n made h = K.at-name lval_decimal n made ∙ h

pub concat-decimal : (made : List VLval) → if_some (list_all is_decimal) (Some made) ≡ true → if_some is_decimal (Some (G.Concat made)) ≡ true
concat-decimal made h = K.at-concat lval_decimal made ∙ list_all-map (λ b. b) is_decimal made ∙ h

pub ruleset operands = (name-decimal, concat-decimal, number-none, paren-none, call-none, repeat-none, sign-none, name-none, name-some, concat-none, concat-some)

-- expressions
pub prim-is : (e : VExpr) (a : VPrim) → e ≡ E.Prim a → connected_of_prim a ≡ as_target e
prim-is e a is = sym (ap as_target is ∙ L.at-prim connected_expr connected_prim connected_sel a)

pub unary-none : (e : VExpr) (op : VUnaryOp) (a : VPrim) → e ≡ E.Unary op a → None ≡ as_target e
unary-none e op a is = sym (ap as_target is ∙ L.at-unary connected_expr connected_prim connected_sel op a)

pub binary-none : (e : VExpr) (op : VBinaryOp) (a b : VPrim) → e ≡ E.Binary op a b → None ≡ as_target e
binary-none e op a b is = sym (ap as_target is ∙ L.at-binary connected_expr connected_prim connected_sel op a b)

pub choose-none : (e : VExpr) (on a b : VPrim) → e ≡ E.Choose on a b → None ≡ as_target e
choose-none e on a b is = sym (ap as_target is ∙ L.at-choose connected_expr connected_prim connected_sel on a b)

pub ruleset expressions = (prim-is, unary-none, binary-none, choose-none)
