-- Targets, form by form.
use Rattle.std.proofs.Common.{◌≡◌, ℕ, ◌<◌, ◌≤◌, List, [], ◌∷◌, ◌++◌, length, take, drop, map, Option, refl, arith, ap, sym, ◌∙◌, subst}
use Rattle.std.proofs.Math.ListN.{drop_of_length-le}
use Rattle.b4_core.specs.declared.bit.Bit4.{Bit4}
use Rattle.row_machine.specs.Valuation.{Valuation, Changes}
use Rattle.row_machine.specs.Steps.{then_changes}
use Rattle.picks.specs.Windows.{written}
use Rattle.v_tree.specs.Names.{Name}
use Rattle.v_tree.specs.declared.expressions.VSel.{VSel}
use Rattle.v_tree.specs.declared.statements.VLval.{VLval, VLval-F, fold-roll-VLval}
use Rattle.v_tree.specs.declared.statements.VLval.TheVariants as L
use Rattle.v_meaning.specs.Scopes as S
use Rattle.v_meaning.specs.Selects as T
use Rattle.v_meaning.specs.Values.{sel_meaning, width_of}
use Rattle.v_meaning.specs.Statements.{Target, target, lval_step, name_target, joined_target, parts_width, puts_parts}
use Rattle.v_eval.specs.declared.paths.Named.{Named}
use Rattle.v_eval.specs.declared.paths.Path.{Path}
use Rattle.v_eval.specs.declared.scopes.Scope.{Scope}
use Rattle.v_eval.specs.Limits.{limits_of_sel, most_of_sels}
use Rattle.v_eval.specs.Names.{nameless, names_of}
use Rattle.v_eval.specs.Paths.{named_or_not, path_of}
use Rattle.v_eval.specs.Scopes.{scope_of}
use Rattle.v_eval.specs.Windows.{window_of, IsNear}
use Rattle.v_run.specs.declared.pieces.Piece.{Piece}
use Rattle.v_run.specs.Changes.{changes_of, AllNear}
use Rattle.v_run.specs.Limits.{target_most, lval_limits, most_of_parts}
use Rattle.v_run.proofs.Changed.{changes-more, then-assoc}

pub is-name : (x : VLval) (n : Name) (ss : List VSel) → x ≡ L.Name n ss → target x ≡ name_target n (map sel_meaning ss)
is-name x n ss is = ap target (is ∙ sym (L.rolls-Name n ss)) ∙ fold-roll-VLval Target lval_step (VLval-F.Name n ss)

pub is-concat : (x : VLval) (xs : List VLval) → x ≡ L.Concat xs → target x ≡ joined_target (map target xs)
is-concat x xs is = ap target (is ∙ sym (L.rolls-Concat xs)) ∙ fold-roll-VLval Target lval_step (VLval-F.Concat xs)

name-wide : (n : Name) (ss : List T.SelMeaning) (sc : S.Scope) → width_of (nameless (S.named sc.names n)) ss ≡ (name_target n ss).width sc
unfolding name_target
name-wide n ss sc = refl

pub width-name : (w : ℕ) (x : VLval) (n : Name) (ss : List VSel) (o : Option Named) (s : Scope) → x ≡ L.Name n ss → w ≡ width_of (named_or_not o) (map sel_meaning ss) → named_or_not o ≡ nameless (S.named (names_of s) n)
    → w ≡ (target x).width (scope_of s)
width-name w x n ss o s is of found =
    of ∙ ap (λ m. width_of m (map sel_meaning ss)) found ∙ name-wide n (map sel_meaning ss) (scope_of s) ∙ sym (ap (λ (t : Target). t.width (scope_of s)) (is-name x n ss is))

concat-wide : (ts : List Target) (sc : S.Scope) → parts_width ts sc ≡ (joined_target ts).width sc
unfolding joined_target
concat-wide ts sc = refl

pub width-concat : (w : ℕ) (x : VLval) (xs : List VLval) (sc : S.Scope) → x ≡ L.Concat xs → w ≡ parts_width (map target xs) sc → w ≡ (target x).width sc
width-concat w x xs sc is of = of ∙ concat-wide (map target xs) sc ∙ sym (ap (λ (t : Target). t.width sc) (is-concat x xs is))

pub ruleset widths = (width-name, width-concat)

pub dropped-all : (r v : List Bit4) (low : ℕ) → r ≡ [] → length v < low → r ≡ drop low v
dropped-all r v low is h = is ∙ sym (drop_of_length-le v (omega (arith, h)))

pub ruleset drops = (dropped-all)

-- what is left of the limit for the parts
pub narrow-name : (x : VLval) (n : Name) (ss : List VSel) (sc : S.Scope) → x ≡ L.Name n ss → target_most x sc ≤ 128 → most_of_sels (map limits_of_sel ss) sc ≤ 128
narrow-name x n ss sc is h = subst (λ (f : S.Scope → ℕ). f sc ≤ 128) (ap target_most (is ∙ sym (L.rolls-Name n ss)) ∙ fold-roll-VLval (S.Scope → ℕ) lval_limits (VLval-F.Name n ss)) h

pub narrow-concat : (x : VLval) (xs : List VLval) (sc : S.Scope) → x ≡ L.Concat xs → target_most x sc ≤ 128 → most_of_parts (map target_most xs) sc ≤ 128
narrow-concat x xs sc is h = subst (λ (f : S.Scope → ℕ). f sc ≤ 128) (ap target_most (is ∙ sym (L.rolls-Concat xs)) ∙ fold-roll-VLval (S.Scope → ℕ) lval_limits (VLval-F.Concat xs)) h

-- what they write
name-puts : (n : Name) (ss : List T.SelMeaning) (m : S.Named) (sc : S.Scope) (v : Valuation) (bits : List Bit4) → m ≡ nameless (S.named sc.names n)
    → written m.number (T.path_from sc v ss (T.start m)).window bits ≡ (name_target n ss).puts sc v bits
unfolding name_target
name-puts n ss m sc v bits is = ap (λ (k : S.Named). written k.number (T.path_from sc v ss (T.start k)).window bits) is

pub put-name : (old new : List Piece) (p : Piece) (x : VLval) (n : Name) (ss : List VSel) (o : Option Named) (q : Path) (s : Scope) (v : Valuation) (bits : List Bit4) → x ≡ L.Name n ss → new ≡ old ++ p ∷ []
    → p.number ≡ (named_or_not o).number → window_of p.window ≡ window_of q.window → p.bits ≡ bits → named_or_not o ≡ nameless (S.named (names_of s) n)
    → path_of q ≡ T.path_from (scope_of s) v (map sel_meaning ss) (T.start (named_or_not o)) → changes_of new ≡ then_changes (changes_of old) ((target x).puts (scope_of s) v bits)
put-name old new p x n ss o q s v bits is more number window same found path =
    ap changes_of more ∙ changes-more old p
    ∙ ap (then_changes (changes_of old))
    (
    ap (λ k. written k (window_of p.window) p.bits) number ∙ ap (λ w. written (named_or_not o).number w p.bits) (window ∙ ap (λ (r : T.Path). r.window) path)
    ∙ ap (written (named_or_not o).number (T.path_from (scope_of s) v (map sel_meaning ss) (T.start (named_or_not o))).window) same
    ∙ name-puts n (map sel_meaning ss) (named_or_not o) (scope_of s) v bits found ∙ sym (ap (λ (t : Target). t.puts (scope_of s) v bits) (is-name x n ss is))
    )

concat-puts : (ts : List Target) (sc : S.Scope) (v : Valuation) (bits : List Bit4) → puts_parts ts sc v bits ≡ (joined_target ts).puts sc v bits
unfolding joined_target
concat-puts ts sc v bits = refl

pub put-concat : (old new : List Piece) (x : VLval) (xs : List VLval) (sc : S.Scope) (v : Valuation) (bits : List Bit4) → x ≡ L.Concat xs → changes_of new ≡ then_changes (changes_of old) (puts_parts (map target xs) sc v bits)
    → changes_of new ≡ then_changes (changes_of old) ((target x).puts sc v bits)
put-concat old new x xs sc v bits is of =
    of ∙ ap (then_changes (changes_of old)) (concat-puts (map target xs) sc v bits ∙ sym (ap (λ (t : Target). t.puts sc v bits) (is-concat x xs is)))

-- one part more
pub parts-next : (t : Target) (ts : List Target) (sc : S.Scope) (v : Valuation) (low : ℕ) (now new : List Piece) (rest own next : List Bit4) (all : Changes) → low ≡ parts_width ts sc → own ≡ drop low rest → next ≡ take low rest
    → changes_of new ≡ then_changes (changes_of now) (t.puts sc v own) → then_changes (changes_of now) (puts_parts (t ∷ ts) sc v rest) ≡ all → then_changes (changes_of new) (puts_parts ts sc v next) ≡ all
parts-next t ts sc v low now new rest own next all wide top bottom is before =
    ap (λ c. then_changes c (puts_parts ts sc v next)) (is ∙ ap (λ u. then_changes (changes_of now) (t.puts sc v u)) (top ∙ ap (λ k. drop k rest) wide))
    ∙ ap (λ u. then_changes (then_changes (changes_of now) (t.puts sc v (drop (parts_width ts sc) rest))) (puts_parts ts sc v u)) (bottom ∙ ap (λ k. take k rest) wide)
    ∙ then-assoc (changes_of now) (t.puts sc v (drop (parts_width ts sc) rest)) (puts_parts ts sc v (take (parts_width ts sc) rest)) ∙ before

near-more : (ps : List Piece) (p : Piece) → AllNear ps → IsNear p.window → AllNear (ps ++ p ∷ [])
near-more [] p h g = (g, tt)
near-more (r ∷ ps) p h g = (h.0, near-more ps p h.1 g)

pub near-next : (old new : List Piece) (p : Piece) → new ≡ old ++ p ∷ [] → AllNear old → IsNear p.window → AllNear new
near-next old new p is h g = subst AllNear (sym is) (near-more old p h g)
