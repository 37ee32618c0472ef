-- Prefixes of selects with constant bases.
use Rattle.std.proofs.Common.{◌≡◌, ◌≤◌, ◌<◌, ℕ, suc, Bool, true, false, List, [], ◌∷◌, ◌++◌, length, take, drop, get_or, map, refl, sym, ap, ◌∙◌, arith, append_assoc, take-suc, drop-cons}
use Rattle.std.specs.Prelude.{cond}
use Rattle.std.proofs.lemmas.List.{append-nil}
use Rattle.row_machine.specs.Valuation.{Valuation}
use Rattle.v_tree.specs.declared.expressions.VSel.{VSel}
use Rattle.v_meaning.specs.Scopes as S
use Rattle.v_meaning.specs.Selects.{Path, select, path_from, prefix_from}
use Rattle.v_meaning.specs.Values.{sel_meaning}
use Rattle.v_eval.specs.Limits.{limits_of_sel, most_of_sels}
use Rattle.v_constants.specs.Constants.{leading}

-- the bits that such a prefix names are those of the definition
pub prefix-leading : (sc : S.Scope) (v : Valuation) (ss : List VSel) (p : Path) → (path_from sc v (map sel_meaning (leading sc ss)) p).window ≡ prefix_from sc v (map sel_meaning ss) p
prefix-leading sc v [] p = refl
prefix-leading sc v (s ∷ ss) p = by (prefix-leading sc v ss (select (sel_meaning s) ((sel_meaning s).base sc v) p)) ((sel_meaning s).constant sc)
  where
    next : Path
    next = select (sel_meaning s) ((sel_meaning s).base sc v) p

    by : (path_from sc v (map sel_meaning (leading sc ss)) next).window ≡ prefix_from sc v (map sel_meaning ss) next → (b : Bool)
        → (path_from sc v (map sel_meaning (cond b (s ∷ leading sc ss) [])) p).window ≡ cond b (prefix_from sc v (map sel_meaning ss) next) p.window
    by go true = go
    by go false = refl

-- and it does arithmetic on no more bits
pub leading-narrow : (sc tc : S.Scope) (ss : List VSel) (n : ℕ) → most_of_sels (map limits_of_sel ss) tc ≤ n → most_of_sels (map limits_of_sel (leading sc ss)) tc ≤ n
leading-narrow sc tc [] n h = h
leading-narrow sc tc (s ∷ ss) n h = by (leading-narrow sc tc ss n (omega (arith, h))) ((sel_meaning s).constant sc)
  where
    own : (limits_of_sel s).most tc ≤ n
    own = omega (arith, h)

    by : most_of_sels (map limits_of_sel (leading sc ss)) tc ≤ n → (b : Bool) → most_of_sels (map limits_of_sel (cond b (s ∷ leading sc ss) [])) tc ≤ n
    by go true = omega (arith, go, own)
    by go false = omega arith

-- turns of the loop
here : (ss : List VSel) (k : ℕ) (s : VSel) → k < length ss → s ≡ get_or ss k s → drop k ss ≡ s ∷ drop (suc k) ss
here ss k s h e = drop-cons ss k s h ∙ ap (λ x. x ∷ drop (suc k) ss) (sym e)

pub prefix-turn : (sc : S.Scope) (ss all : List VSel) (k : ℕ) (s : VSel) → k < length ss → s ≡ get_or ss k s → true ≡ (sel_meaning s).constant sc → take k ss ++ leading sc (drop k ss) ≡ all
    → take (suc k) ss ++ leading sc (drop (suc k) ss) ≡ all
prefix-turn sc ss all k s h e is before =
    let rest = leading sc (drop (suc k) ss) in
    ap (λ l. l ++ rest) (take-suc ss k s h ∙ ap (λ x. take k ss ++ x ∷ []) (sym e)) ∙ append_assoc (take k ss) (s ∷ []) rest
    ∙ ap (λ l. take k ss ++ l) (ap (λ b. cond b (s ∷ rest) []) is ∙ sym (ap (leading sc) (here ss k s h e))) ∙ before

pub prefix-stop : (sc : S.Scope) (ss all : List VSel) (k : ℕ) (s : VSel) → k < length ss → s ≡ get_or ss k s → false ≡ (sel_meaning s).constant sc → take k ss ++ leading sc (drop k ss) ≡ all
    → take k ss ≡ all
prefix-stop sc ss all k s h e is before =
    let rest = leading sc (drop (suc k) ss) in
    sym (append-nil (take k ss)) ∙ ap (λ l. take k ss ++ l) (ap (λ b. cond b (s ∷ rest) []) is ∙ sym (ap (leading sc) (here ss k s h e))) ∙ before
