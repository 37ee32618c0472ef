-- The walk over expressions marks the signals that their meanings name.
use Rattle.std.proofs.Common.{◌≡◌, ℕ, suc, ◌-◌, ◌==◌, Bool, true, false, ◌||◌, cond, ℤ, List, [], ◌∷◌, ◌++◌, length, map, flat_map, append_assoc, zip, Option, Some, None, refl, ap, sym, ◌∙◌, subst, arith}
use Rattle.std.specs.List.{list_any}
use Rattle.std.proofs.lemmas.Bool.Decides.{nat_tests}
use Rattle.std.proofs.lemmas.List.Folds.{list_any-append}
use Rattle.b4_core.specs.declared.bit.Bit4.{Bit4}
use Rattle.b4_core.specs.declared.operators.UnOp.{UnOp}
use Rattle.b4_core.specs.declared.operators.BinOp.{BinOp}
use Rattle.b4_core.specs.declared.operators.RedOp.{RedOp}
use Rattle.b4_core.specs.declared.operators.ShiftOp.{ShiftOp}
use Rattle.b4_core.specs.declared.operators.OrdOp.{OrdOp}
use Rattle.b4_core.specs.declared.operators.EqOp.{EqOp}
use Rattle.sv_types.specs.declared.types.SvType.{SvType}
use Rattle.sv_types.specs.declared.types.Value.{Value}
use Rattle.sv_types.specs.declared.expression.Expr.{Expr}
use Rattle.sv_types.specs.declared.expression.Form.{Form, fold-Form}
use Rattle.sv_types.specs.declared.expression.Choice.{Choice}
use Rattle.sv_types.specs.Layouts.{Layout, Part, layout}
use Rattle.sv_types.specs.Surroundings.{is_signal, local_number}
use Rattle.sv_types.specs.Meanings.{Meaning, Named, Operand, by_itself, at_width}
use Rattle.sv_types.specs.Meanings as Me
use Rattle.sv_types.specs.Operators as O
use Rattle.sv_types.specs.Operators.{Alternative, inside_operands, assigned_width, parts_of}
use Rattle.sv_types.specs.Paths as P
use Rattle.sv_types.specs.Paths.{names_of_root}
use Rattle.sv_types.specs.Expressions.{meaning}
use Rattle.sv_types.proofs.Levels as S
use Rattle.sv_types.proofs.Levels.{form_meaning, alternative}
use Rattle.sv_types.proofs.Terms.{Each, Steps, by-expr}
use Rattle.body_mentions.proofs.Levels as L
use Rattle.memory_breaks.specs.declared.names.Sense.{Sense}
use Rattle.memory_breaks.specs.declared.names.Sense.TheVariants as Y
use Rattle.memory_breaks.specs.Marks as Ma
use Rattle.memory_breaks.specs.Names as W
use Rattle.memory_breaks.specs.Names.{Walk, walk, choice_walk, in_turn, first}
use Rattle.memory_breaks.proofs.Marking.{Marking, idle, also, same, one-marked, suc-zero, or-assoc, or-false, or-swap, or-turn}

abbrev form_walk : Form → SvType → Walk
form_walk = fold-Form Walk (SvType → Walk) Walk W.choice_step W.form_step W.expr_step

-- one more of the first so many
pub first-more : (k : ℕ) (w : Walk) (ws : List Walk) → first (suc k) (w ∷ ws) ≡ (λ u. first k ws (w Y.Named u))
first-more k w ws =
    let less : suc k - 1 ≡ k = omega arith in
    λ i u. cond (suc-zero k i) u (first (less i) ws (w Y.Named u))

module _ (q : ℕ) (signal : is_signal q ≡ true) where
  -- whether it is named
  abbrev pub has : List Named → Bool
  has ns = list_any (λ (m : Named). m.number == q) ns

  abbrev pub is_in : List ℕ → Bool
  is_in ns = list_any (λ (n : ℕ). n == q) ns

  abbrev number_of : Named → ℕ
  number_of m = m.number

  abbrev names_in : Meaning → List Named
  names_in m = m.names

  abbrev index_names_in : Meaning → List Named
  index_names_in m = m.index_names

  abbrev operand_names : Operand → List Named
  operand_names p = p.of.names

  -- a walk marks what an expression names, in each sense; a target names its roots and what its indices name
  pub record Names (w : Walk) (m : Meaning) : Type 0 where
    pub named : Marking q (w Y.Named) (has m.names)
    pub selected : Marking q (w Y.Selected) (is_in (Me.roots_of m.root) || has m.index_names)
    pub inner : Marking q (w Y.Inner) (has m.index_names)
    pub target : has m.names ≡ (has m.index_names || is_in m.roots)
    pub head : map number_of (names_of_root m.root m.names) ≡ Me.roots_of m.root

  -- what is no path, whose operands are named in each sense
  bare : (p : Ma.Part) {m : Meaning} (b : Bool) → Marking q p b → m.root ≡ None → has m.names ≡ b → has m.index_names ≡ b → m.roots ≡ [] → Names (λ s u. p u) m
  bare p {m} b marks none names inner roots = record {
    named = same q (sym names) marks;
    selected = same q (sym (ap (λ r. is_in (Me.roots_of r) || has m.index_names) none ∙ inner)) marks;
    inner = same q (sym inner) marks;
    target = names ∙ sym (or-false b) ∙ (λ i. sym inner i || is_in (sym roots i));
    head = ap (λ r. map number_of (names_of_root r m.names)) none ∙ sym (ap (λ r. Me.roots_of r) none);
  }

  one-name : (xs : List Named) → has (xs ++ []) ≡ has xs
  one-name xs = list_any-append (λ (m : Named). m.number == q) xs [] ∙ or-false (has xs)

  two-names : (xs ys : List Named) → has (xs ++ (ys ++ [])) ≡ (has xs || has ys)
  two-names xs ys = list_any-append (λ (m : Named). m.number == q) xs (ys ++ []) ∙ ap (λ b. has xs || b) (one-name ys)

  three-names : (xs ys zs : List Named) → has (xs ++ (ys ++ (zs ++ []))) ≡ ((has xs || has ys) || has zs)
  three-names xs ys zs = list_any-append (λ (m : Named). m.number == q) xs (ys ++ (zs ++ [])) ∙ ap (λ b. has xs || b) (two-names ys zs) ∙ or-assoc (has xs) (has ys) (has zs)

  -- a signal or a local
  local-other : (n : ℕ) → (local_number n == q) ≡ false
  local-other n = grind (arith, nat_tests, signal)

  in-Signal : (of : Layout) (at n : ℕ) → Names (W.signal n) (P.signal of at n)
  unfolding P.signal
  in-Signal of at n =
      let it = same q (sym (or-false (n == q))) (one-marked q n) in
      let again : Marking q (Ma.marked n) ((n == q) || false) = it in
      record {
        named = again;
        selected = same q (sym (or-false ((n == q) || false))) again;
        inner = idle q;
        target = refl;
        head = refl;
      }

  in-Local : (of : Layout) (at n : ℕ) → Names W.nothing (P.local of at n)
  unfolding P.local
  in-Local of at n =
      let no = ap (λ b. b || false) (local-other n) in
      record {
        named = same q (sym no) (idle q);
        selected = same q (sym (ap (λ b. b || false) no)) (idle q);
        inner = idle q;
        target = refl;
        head = refl;
      }

  -- steps of a path
  by-numbers : (xs : List Named) → has xs ≡ is_in (map number_of xs)
  by-numbers [] = refl
  by-numbers (x ∷ xs) = ap (λ b. (x.number == q) || b) (by-numbers xs)

  not-empty : (n : ℕ) (ns : List ℕ) → [] ≡ n ∷ ns → ⊥
  not-empty n ns is = let e = ap (λ (xs : List ℕ). length xs) is in omega (arith, e)

  head-again : (r : Option ℕ) (names more : List Named) → map number_of (names_of_root r names) ≡ Me.roots_of r → map number_of (names_of_root r (names_of_root r names ++ more)) ≡ Me.roots_of r
  head-again None names more h = refl
  head-again (Some n) [] more h = absurd (not-empty n [] h)
  head-again (Some n) (x ∷ names) more h = h

  -- a step, by what it selects from and the names in its index
  stepped : (w : Walk) (from m : Meaning) → Names w from → m.root ≡ from.root → m.names ≡ names_of_root from.root from.names ++ from.index_names → m.index_names ≡ from.index_names → m.roots ≡ Me.roots_of from.root
      → Names (W.from w) m
  stepped w from m h root names inner roots =
      let both : has m.names ≡ (is_in (Me.roots_of from.root) || has from.index_names) =
      ap has names
      ∙ list_any-append (λ (x : Named). x.number == q) (names_of_root from.root from.names) from.index_names
      ∙ ap (λ b. b || has from.index_names) (by-numbers (names_of_root from.root from.names) ∙ ap is_in h.head) in
      record {
        named = same q (sym both) h.selected;
        selected = same q (sym (λ i. is_in (Me.roots_of (root i)) || has (inner i))) h.selected;
        inner = same q (sym (ap has inner)) h.inner;
        target = both ∙ or-turn (is_in (Me.roots_of from.root)) (has from.index_names) ∙ sym (λ i. has (inner i) || is_in (roots i));
        head = (λ i. map number_of (names_of_root (root i) (names i))) ∙ head-again from.root from.names from.index_names h.head ∙ sym (ap (λ r. Me.roots_of r) root);
      }

  indexed : (w v : Walk) (from i m : Meaning) → Names w from → Names v i → m.root ≡ from.root → m.names ≡ names_of_root from.root from.names ++ (from.index_names ++ i.names)
      → m.index_names ≡ from.index_names ++ i.names → m.roots ≡ Me.roots_of from.root → Names (W.indexed w v) m
  indexed w v from i m h g root names inner roots =
      let r = is_in (Me.roots_of from.root) in
      let two : has (from.index_names ++ i.names) ≡ (has from.index_names || has i.names) = list_any-append (λ (x : Named). x.number == q) from.index_names i.names in
      let both : has m.names ≡ (r || has (from.index_names ++ i.names)) =
      ap has names
      ∙ list_any-append (λ (x : Named). x.number == q) (names_of_root from.root from.names) (from.index_names ++ i.names)
      ∙ ap (λ b. b || has (from.index_names ++ i.names)) (by-numbers (names_of_root from.root from.names) ∙ ap is_in h.head) in
      let all = ap (λ b. r || b) two ∙ or-assoc r (has from.index_names) (has i.names) in
      record {
        named = same q (sym (both ∙ all)) (also q h.selected g.named);
        selected = same q (sym ((λ j. is_in (Me.roots_of (root j)) || has (inner j)) ∙ all)) (also q h.selected g.named);
        inner = same q (sym (ap has inner ∙ two)) (also q h.inner g.named);
        target = both ∙ or-turn r (has (from.index_names ++ i.names)) ∙ sym (λ j. has (inner j) || is_in (roots j));
        head = (λ j. map number_of (names_of_root (root j) (names j))) ∙ head-again from.root from.names (from.index_names ++ i.names) h.head ∙ sym (ap (λ x. Me.roots_of x) root);
      }

  in-Member : (of : Layout) (at : ℕ) (x : Expr) (k : ℕ) → Names (walk x) (meaning x) → Names (W.from (walk x)) (P.member of at (meaning x) k)
  unfolding P.member
  in-Member of at x k h = stepped (walk x) (meaning x) _ h refl refl refl refl

  in-Index : (of : Layout) (at : ℕ) (x i : Expr) → Names (walk x) (meaning x) → Names (walk i) (meaning i) → Names (W.indexed (walk x) (walk i)) (P.index of at (meaning x) (meaning i))
  unfolding P.index
  in-Index of at x i h g = indexed (walk x) (walk i) (meaning x) (meaning i) _ h g refl refl refl refl

  in-Part : (of : Layout) (at : ℕ) (x : Expr) (left right : ℤ) → Names (walk x) (meaning x) → Names (W.from (walk x)) (P.part_select of at (meaning x) left right)
  unfolding P.part_select
  in-Part of at x left right h = stepped (walk x) (meaning x) _ h refl refl refl refl

  in-Slide : (of : Layout) (at : ℕ) (x i : Expr) (n : ℕ) (up : Bool) → Names (walk x) (meaning x) → Names (walk i) (meaning i) → Names (W.indexed (walk x) (walk i)) (P.sliding of at (meaning x) (meaning i) n up)
  unfolding P.sliding
  in-Slide of at x i n up h g = indexed (walk x) (walk i) (meaning x) (meaning i) _ h g refl refl refl refl

  -- operators
  in-Literal : (of : Layout) (at : ℕ) (v : List Bit4) (goes_on : Bool) → Names W.nothing (O.literal of at goes_on v)
  unfolding O.literal
  in-Literal of at v goes_on = bare (λ u. u) false (idle q) refl refl refl refl

  in-Fill : (of : Layout) (at : ℕ) (b : Bit4) → Names W.nothing (O.fill of at b)
  unfolding O.fill
  in-Fill of at b = bare (λ u. u) false (idle q) refl refl refl refl

  in-Constant : (of : Layout) (at : ℕ) (v : Value) → Names W.nothing (O.constant of at v)
  unfolding O.constant
  in-Constant of at v = bare (λ u. u) false (idle q) refl refl refl refl

  in-Unary : (of : Layout) (at : ℕ) (op : UnOp) (x : Expr) → Names (walk x) (meaning x) → Names (W.operand (walk x)) (O.unary of at op (meaning x))
  unfolding O.unary
  in-Unary of at op x h = let it = one-name (meaning x).names in bare (walk x Y.Named) (has (meaning x).names) h.named refl it it refl

  in-Reduce : (of : Layout) (at : ℕ) (op : RedOp) (x : Expr) → Names (walk x) (meaning x) → Names (W.operand (walk x)) (O.reduce of at op (meaning x))
  unfolding O.reduce
  in-Reduce of at op x h = let it = one-name (meaning x).names in bare (walk x Y.Named) (has (meaning x).names) h.named refl it it refl

  in-Negate : (of : Layout) (at : ℕ) (x : Expr) → Names (walk x) (meaning x) → Names (W.operand (walk x)) (O.negate of at (meaning x))
  unfolding O.negate
  in-Negate of at x h = let it = one-name (meaning x).names in bare (walk x Y.Named) (has (meaning x).names) h.named refl it it refl

  in-Cast : (of : Layout) (at : ℕ) (x : Expr) → Names (walk x) (meaning x) → Names (W.operand (walk x)) (O.cast of at (meaning x))
  unfolding O.cast
  in-Cast of at x h = let it = one-name (meaning x).names in bare (walk x Y.Named) (has (meaning x).names) h.named refl it it refl

  in-Clog2 : (of : Layout) (at : ℕ) (x : Expr) → Names (walk x) (meaning x) → Names (W.operand (walk x)) (O.clog2 of at (meaning x))
  unfolding O.clog2
  in-Clog2 of at x h = let it = one-name (meaning x).names in bare (walk x Y.Named) (has (meaning x).names) h.named refl it it refl

  in-Binary : (of : Layout) (at : ℕ) (op : BinOp) (x y : Expr) → Names (walk x) (meaning x) → Names (walk y) (meaning y) → Names (W.both (walk x) (walk y)) (O.binary of at op (meaning x) (meaning y))
  unfolding O.binary
  in-Binary of at op x y h g =
      let it = two-names (meaning x).names (meaning y).names in
      bare (λ u. walk y Y.Named (walk x Y.Named u)) (has (meaning x).names || has (meaning y).names) (also q h.named g.named) refl it it refl

  in-Shift : (of : Layout) (at : ℕ) (op : ShiftOp) (x y : Expr) → Names (walk x) (meaning x) → Names (walk y) (meaning y) → Names (W.both (walk x) (walk y)) (O.shift of at op (meaning x) (meaning y))
  unfolding O.shift
  in-Shift of at op x y h g =
      let it = two-names (meaning x).names (meaning y).names in
      bare (λ u. walk y Y.Named (walk x Y.Named u)) (has (meaning x).names || has (meaning y).names) (also q h.named g.named) refl it it refl

  in-Power : (of : Layout) (at : ℕ) (x y : Expr) → Names (walk x) (meaning x) → Names (walk y) (meaning y) → Names (W.both (walk x) (walk y)) (O.power of at (meaning x) (meaning y))
  unfolding O.power
  in-Power of at x y h g =
      let it = two-names (meaning x).names (meaning y).names in
      bare (λ u. walk y Y.Named (walk x Y.Named u)) (has (meaning x).names || has (meaning y).names) (also q h.named g.named) refl it it refl

  in-Order : (of : Layout) (at : ℕ) (op : OrdOp) (x y : Expr) → Names (walk x) (meaning x) → Names (walk y) (meaning y) → Names (W.both (walk x) (walk y)) (O.order of at op (meaning x) (meaning y))
  unfolding O.order
  in-Order of at op x y h g =
      let it = two-names (meaning x).names (meaning y).names in
      bare (λ u. walk y Y.Named (walk x Y.Named u)) (has (meaning x).names || has (meaning y).names) (also q h.named g.named) refl it it refl

  in-Equal : (of : Layout) (at : ℕ) (op : EqOp) (negated : Bool) (x y : Expr) → Names (walk x) (meaning x) → Names (walk y) (meaning y) → Names (W.both (walk x) (walk y)) (O.equal of at op negated (meaning x) (meaning y))
  unfolding O.equal
  in-Equal of at op negated x y h g =
      let it = two-names (meaning x).names (meaning y).names in
      bare (λ u. walk y Y.Named (walk x Y.Named u)) (has (meaning x).names || has (meaning y).names) (also q h.named g.named) refl it it refl

  in-Both : (of : Layout) (at : ℕ) (x y : Expr) → Names (walk x) (meaning x) → Names (walk y) (meaning y) → Names (W.both (walk x) (walk y)) (O.both of at (meaning x) (meaning y))
  unfolding O.both
  in-Both of at x y h g =
      let it = two-names (meaning x).names (meaning y).names in
      bare (λ u. walk y Y.Named (walk x Y.Named u)) (has (meaning x).names || has (meaning y).names) (also q h.named g.named) refl it it refl

  in-Either : (of : Layout) (at : ℕ) (x y : Expr) → Names (walk x) (meaning x) → Names (walk y) (meaning y) → Names (W.both (walk x) (walk y)) (O.either of at (meaning x) (meaning y))
  unfolding O.either
  in-Either of at x y h g =
      let it = two-names (meaning x).names (meaning y).names in
      bare (λ u. walk y Y.Named (walk x Y.Named u)) (has (meaning x).names || has (meaning y).names) (also q h.named g.named) refl it it refl

  in-Choose : (of : Layout) (at : ℕ) (z x y : Expr) → Names (walk z) (meaning z) → Names (walk x) (meaning x) → Names (walk y) (meaning y)
      → Names (W.three (walk z) (walk x) (walk y)) (O.choose of at (meaning z) (meaning x) (meaning y))
  unfolding O.choose
  in-Choose of at z x y k h g =
      let it = three-names (meaning z).names (meaning x).names (meaning y).names in
      bare (λ u. walk y Y.Named (walk x Y.Named (walk z Y.Named u))) ((has (meaning z).names || has (meaning x).names) || has (meaning y).names) (also q (also q k.named h.named) g.named) refl it it refl

  -- lists
  turns : (s : Sense) (f : Meaning → List Named) (es : List Expr) → Each (λ e. Marking q (walk e s) (has (f (meaning e)))) es → Marking q (in_turn (map walk es) s) (has (flat_map f (map meaning es)))
  turns s f [] each = idle q
  turns s f (e ∷ es) each =
      same q (sym (list_any-append (λ (m : Named). m.number == q) (f (meaning e)) (flat_map f (map meaning es)))) (also q each.0 (turns s f es each.1))

  by-themselves : (ms : List Meaning) → flat_map operand_names (map by_itself ms) ≡ flat_map names_in ms
  by-themselves [] = refl
  by-themselves (m ∷ ms) = ap (λ xs. m.names ++ xs) (by-themselves ms)

  all-named : (es : List Expr) → Each (λ e. Names (walk e) (meaning e)) es → Marking q (in_turn (map walk es) Y.Named) (has (flat_map operand_names (map by_itself (map meaning es))))
  all-named es each = same q (ap has (sym (by-themselves (map meaning es)))) (turns Y.Named names_in es (each-named es each))
    where
      each-named : (es : List Expr) → Each (λ e. Names (walk e) (meaning e)) es → Each (λ e. Marking q (walk e Y.Named) (has (meaning e).names)) es
      each-named [] each = tt
      each-named (e ∷ es) each = (each.0.named, each-named es each.1)

  all-inner : (es : List Expr) → Each (λ e. Names (walk e) (meaning e)) es → Marking q (in_turn (map walk es) Y.Inner) (has (flat_map index_names_in (map meaning es)))
  all-inner es each = turns Y.Inner index_names_in es (each-inner es each)
    where
      each-inner : (es : List Expr) → Each (λ e. Names (walk e) (meaning e)) es → Each (λ e. Marking q (walk e Y.Inner) (has (meaning e).index_names)) es
      each-inner [] each = tt
      each-inner (e ∷ es) each = (each.0.inner, each-inner es each.1)

  all-targets : (es : List Expr) → Each (λ e. Names (walk e) (meaning e)) es
      → has (flat_map operand_names (map by_itself (map meaning es))) ≡ (has (flat_map index_names_in (map meaning es)) || is_in (flat_map (λ (m : Meaning). m.roots) (map meaning es)))
  all-targets [] each = refl
  all-targets (e ∷ es) each =
      let m = meaning e in
      let more = flat_map operand_names (map by_itself (map meaning es)) in
      let inner = flat_map index_names_in (map meaning es) in
      let roots = flat_map (λ (x : Meaning). x.roots) (map meaning es) in
      list_any-append (λ (x : Named). x.number == q) m.names more
      ∙ (λ i. each.0.target i || all-targets es each.1 i)
      ∙ or-swap (has m.index_names) (is_in m.roots) (has inner) (is_in roots)
      ∙ sym (λ i. list_any-append (λ (x : Named). x.number == q) m.index_names inner i || list_any-append (λ (n : ℕ). n == q) m.roots roots i)

  abbrev parts : List Walk → Walk
  parts ws s u = in_turn ws (W.of_parts s) u

  abbrev operands : List Walk → Walk
  operands ws s u = in_turn ws Y.Named u

  in-Concat : (of : Layout) (at : ℕ) (es : List Expr) → Each (λ e. Names (walk e) (meaning e)) es → Names (parts (map walk es)) (O.concat of at (map meaning es))
  unfolding O.concat
  in-Concat of at es each = record { named = all-named es each; selected = all-inner es each; inner = all-inner es each; target = all-targets es each; head = refl }

  in-Stream : (of : Layout) (at : ℕ) (reversed : Bool) (n : ℕ) (es : List Expr) → Each (λ e. Names (walk e) (meaning e)) es → Names (parts (map walk es)) (O.stream of at reversed n (map meaning es))
  unfolding O.stream
  in-Stream of at reversed n es each = record { named = all-named es each; selected = all-inner es each; inner = all-inner es each; target = all-targets es each; head = refl }

  in-Repeat : (of : Layout) (at : ℕ) (n : ℕ) (es : List Expr) → Each (λ e. Names (walk e) (meaning e)) es → Names (operands (map walk es)) (O.repeat of at n (map meaning es))
  unfolding O.repeat
  in-Repeat of at n es each = bare (in_turn (map walk es) Y.Named) (has (flat_map operand_names (map by_itself (map meaning es)))) (all-named es each) refl refl refl refl

  in-Call : (of : Layout) (at : ℕ) (f : ℕ) (es : List Expr) → Each (λ e. Names (walk e) (meaning e)) es → Names (operands (map walk es)) (O.call of at f (map meaning es))
  unfolding O.call
  in-Call of at f es each = bare (in_turn (map walk es) Y.Named) (has (flat_map operand_names (map by_itself (map meaning es)))) (all-named es each) refl refl refl refl

  -- as many as there are parts
  abbrev assigned : Part × Meaning → Operand
  assigned p = at_width (assigned_width p.0.two_state p.1) p.1

  firsts : (ps : List Part) (es : List Expr) → Each (λ e. Names (walk e) (meaning e)) es → Marking q (first (length ps) (map walk es)) (has (flat_map operand_names (map assigned (zip ps (map meaning es)))))
  firsts [] [] each = idle q
  firsts [] (e ∷ es) each = idle q
  firsts (p ∷ ps) [] each = idle q
  firsts (p ∷ ps) (e ∷ es) each =
      subst (λ (r : Ma.Part). Marking q r (has (flat_map operand_names (map assigned (zip (p ∷ ps) (map meaning (e ∷ es))))))) (sym (first-more (length ps) (walk e) (map walk es)))
      (same q (sym (list_any-append (λ (m : Named). m.number == q) (meaning e).names (flat_map operand_names (map assigned (zip ps (map meaning es)))))) (also q each.0.named (firsts ps es each.1)))

  in-Pattern : (t : SvType) (at : ℕ) (es : List Expr) → Each (λ e. Names (walk e) (meaning e)) es → Names (λ s u. first (length (parts_of (layout t))) (map walk es) u) (O.pattern (layout t) at (map meaning es))
  unfolding O.pattern
  in-Pattern t at es each = bare (first (length (parts_of (layout t))) (map walk es)) (has (flat_map operand_names (map assigned (zip (parts_of (layout t)) (map meaning es))))) (firsts (parts_of (layout t)) es each) refl refl refl refl

  -- alternatives of `inside`
  abbrev NamesChoice : Choice → Type 0
  NamesChoice c = (m : Meaning) → Marking q (choice_walk c Y.Named) (has (flat_map operand_names (inside_operands m (alternative c))))

  choices : (m : Meaning) (cs : List Choice) → Each NamesChoice cs → Marking q (in_turn (map choice_walk cs) Y.Named) (has (flat_map operand_names (flat_map (inside_operands m) (map alternative cs))))
  choices m [] each = idle q
  choices m (c ∷ cs) each =
      same q (sym (ap has (flat-append (inside_operands m (alternative c)) (flat_map (inside_operands m) (map alternative cs)))
      ∙ list_any-append (λ (x : Named). x.number == q) (flat_map operand_names (inside_operands m (alternative c))) (flat_map operand_names (flat_map (inside_operands m) (map alternative cs)))))
      (also q (each.0 m) (choices m cs each.1))
    where
      flat-append : (xs ys : List Operand) → flat_map operand_names (xs ++ ys) ≡ flat_map operand_names xs ++ flat_map operand_names ys
      flat-append [] ys = refl
      flat-append (x ∷ xs) ys = ap (λ zs. x.of.names ++ zs) (flat-append xs ys) ∙ sym (append_assoc x.of.names (flat_map operand_names xs) (flat_map operand_names ys))

  in-Inside : (of : Layout) (at : ℕ) (x : Expr) (cs : List Choice) → Names (walk x) (meaning x) → Each NamesChoice cs
      → Names (λ s u. in_turn (map choice_walk cs) Y.Named (walk x Y.Named u)) (O.inside of at (meaning x) (map alternative cs))
  unfolding O.inside
  in-Inside of at x cs h each =
      let more = flat_map operand_names (flat_map (inside_operands (meaning x)) (map alternative cs)) in
      let it = list_any-append (λ (m : Named). m.number == q) (meaning x).names more in
      bare (λ u. in_turn (map choice_walk cs) Y.Named (walk x Y.Named u)) (has (meaning x).names || has more) (also q h.named (choices (meaning x) cs each)) refl it it refl

  abbrev NamesForm : Form → Type 0
  NamesForm f = (t : SvType) (at : ℕ) → Names (form_walk f t) (form_meaning f (layout t) at)

  abbrev pub NamesExpr : Expr → Type 0
  NamesExpr e = Names (walk e) (meaning e)

  abbrev at_both : SvType → ℕ → (Layout → ℕ → Meaning) → Meaning
  at_both t at y = y (layout t) at

  abbrev at_type : SvType → (SvType → Walk) → Walk
  at_type t w = w t

  by-levels : (w v : Walk) (m n : Meaning) → w ≡ v → m ≡ n → Names v n → Names w m
  by-levels w v m n a b h = subst (λ x. Names x m) (sym a) (subst (Names v) (sym b) h)

  by-choice : (c : Choice) (w : Walk) (a : Alternative) → choice_walk c ≡ w → alternative c ≡ a → ((m : Meaning) → Marking q (w Y.Named) (has (flat_map operand_names (inside_operands m a)))) → NamesChoice c
  by-choice c w a is it h m = subst (λ (v : Walk). Marking q (v Y.Named) (has (flat_map operand_names (inside_operands m (alternative c))))) (sym is) (subst (λ b. Marking q (w Y.Named) (has (flat_map operand_names (inside_operands m b)))) (sym it) (h m))

  all-steps : Steps NamesChoice NamesForm NamesExpr
  all-steps = record {
    value = λ e h. by-choice _ _ _ (L.only Walk (SvType → Walk) Walk W.choice_step W.form_step W.expr_step e) (S.only e) (λ m. same q (sym (one-name (meaning e).names)) h.named);
    range = λ a b h g. by-choice _ _ _ (L.from-to Walk (SvType → Walk) Walk W.choice_step W.form_step W.expr_step a b) (S.from-to a b) (λ m. same q (sym (two-names (meaning a).names (meaning b).names)) (also q h.named g.named));
    expr = λ e h. by-levels _ _ _ _ (L.expr-folded Walk (SvType → Walk) Walk W.choice_step W.form_step W.expr_step e) (S.meaning-form e) (h e.of e.spot.at);
    literal = λ v goes_on t at. by-levels _ _ _ _ (ap (at_type t) (L.form-Literal Walk (SvType → Walk) Walk W.choice_step W.form_step W.expr_step v goes_on)) (ap (at_both t at) (S.form-Literal v goes_on)) (in-Literal (layout t) at v goes_on);
    fill = λ b t at. by-levels _ _ _ _ (ap (at_type t) (L.form-Fill Walk (SvType → Walk) Walk W.choice_step W.form_step W.expr_step b)) (ap (at_both t at) (S.form-Fill b)) (in-Fill (layout t) at b);
    constant = λ v t at. by-levels _ _ _ _ (ap (at_type t) (L.form-Constant Walk (SvType → Walk) Walk W.choice_step W.form_step W.expr_step v)) (ap (at_both t at) (S.form-Constant v)) (in-Constant (layout t) at v);
    signal = λ n t at. by-levels _ _ _ _ (ap (at_type t) (L.form-Signal Walk (SvType → Walk) Walk W.choice_step W.form_step W.expr_step n)) (ap (at_both t at) (S.form-Signal n)) (in-Signal (layout t) at n);
    local = λ n t at. by-levels _ _ _ _ (ap (at_type t) (L.form-Local Walk (SvType → Walk) Walk W.choice_step W.form_step W.expr_step n)) (ap (at_both t at) (S.form-Local n)) (in-Local (layout t) at n);
    member = λ x k h t at. by-levels _ _ _ _ (ap (at_type t) (L.form-Member Walk (SvType → Walk) Walk W.choice_step W.form_step W.expr_step x k)) (ap (at_both t at) (S.form-Member x k)) (in-Member (layout t) at x k h);
    index = λ x i h g t at. by-levels _ _ _ _ (ap (at_type t) (L.form-Index Walk (SvType → Walk) Walk W.choice_step W.form_step W.expr_step x i)) (ap (at_both t at) (S.form-Index x i)) (in-Index (layout t) at x i h g);
    part_select = λ x left right h t at. by-levels _ _ _ _ (ap (at_type t) (L.form-Part Walk (SvType → Walk) Walk W.choice_step W.form_step W.expr_step x left right)) (ap (at_both t at) (S.form-Part x left right)) (in-Part (layout t) at x left right h);
    sliding = λ x i n up h g t at. by-levels _ _ _ _ (ap (at_type t) (L.form-Slide Walk (SvType → Walk) Walk W.choice_step W.form_step W.expr_step x i n up)) (ap (at_both t at) (S.form-Slide x i n up)) (in-Slide (layout t) at x i n up h g);
    unary = λ op x h t at. by-levels _ _ _ _ (ap (at_type t) (L.form-Unary Walk (SvType → Walk) Walk W.choice_step W.form_step W.expr_step op x)) (ap (at_both t at) (S.form-Unary op x)) (in-Unary (layout t) at op x h);
    reduce = λ op x h t at. by-levels _ _ _ _ (ap (at_type t) (L.form-Reduce Walk (SvType → Walk) Walk W.choice_step W.form_step W.expr_step op x)) (ap (at_both t at) (S.form-Reduce op x)) (in-Reduce (layout t) at op x h);
    negate = λ x h t at. by-levels _ _ _ _ (ap (at_type t) (L.form-Negate Walk (SvType → Walk) Walk W.choice_step W.form_step W.expr_step x)) (ap (at_both t at) (S.form-Negate x)) (in-Negate (layout t) at x h);
    binary = λ op x y h g t at. by-levels _ _ _ _ (ap (at_type t) (L.form-Binary Walk (SvType → Walk) Walk W.choice_step W.form_step W.expr_step op x y)) (ap (at_both t at) (S.form-Binary op x y)) (in-Binary (layout t) at op x y h g);
    shift = λ op x y h g t at. by-levels _ _ _ _ (ap (at_type t) (L.form-Shift Walk (SvType → Walk) Walk W.choice_step W.form_step W.expr_step op x y)) (ap (at_both t at) (S.form-Shift op x y)) (in-Shift (layout t) at op x y h g);
    power = λ x y h g t at. by-levels _ _ _ _ (ap (at_type t) (L.form-Power Walk (SvType → Walk) Walk W.choice_step W.form_step W.expr_step x y)) (ap (at_both t at) (S.form-Power x y)) (in-Power (layout t) at x y h g);
    order = λ op x y h g t at. by-levels _ _ _ _ (ap (at_type t) (L.form-Order Walk (SvType → Walk) Walk W.choice_step W.form_step W.expr_step op x y)) (ap (at_both t at) (S.form-Order op x y)) (in-Order (layout t) at op x y h g);
    equal = λ op negated x y h g t at. by-levels _ _ _ _ (ap (at_type t) (L.form-Equal Walk (SvType → Walk) Walk W.choice_step W.form_step W.expr_step op negated x y)) (ap (at_both t at) (S.form-Equal op negated x y)) (in-Equal (layout t) at op negated x y h g);
    both = λ x y h g t at. by-levels _ _ _ _ (ap (at_type t) (L.form-Both Walk (SvType → Walk) Walk W.choice_step W.form_step W.expr_step x y)) (ap (at_both t at) (S.form-Both x y)) (in-Both (layout t) at x y h g);
    either = λ x y h g t at. by-levels _ _ _ _ (ap (at_type t) (L.form-Either Walk (SvType → Walk) Walk W.choice_step W.form_step W.expr_step x y)) (ap (at_both t at) (S.form-Either x y)) (in-Either (layout t) at x y h g);
    choose = λ z x y k h g t at. by-levels _ _ _ _ (ap (at_type t) (L.form-Choose Walk (SvType → Walk) Walk W.choice_step W.form_step W.expr_step z x y)) (ap (at_both t at) (S.form-Choose z x y)) (in-Choose (layout t) at z x y k h g);
    concat = λ es each t at. by-levels _ _ _ _ (ap (at_type t) (L.form-Concat Walk (SvType → Walk) Walk W.choice_step W.form_step W.expr_step es)) (ap (at_both t at) (S.form-Concat es)) (in-Concat (layout t) at es each);
    repeat = λ n es each t at. by-levels _ _ _ _ (ap (at_type t) (L.form-Repeat Walk (SvType → Walk) Walk W.choice_step W.form_step W.expr_step n es)) (ap (at_both t at) (S.form-Repeat n es)) (in-Repeat (layout t) at n es each);
    inside = λ x cs h each t at. by-levels _ _ _ _ (ap (at_type t) (L.form-Inside Walk (SvType → Walk) Walk W.choice_step W.form_step W.expr_step x cs)) (ap (at_both t at) (S.form-Inside x cs)) (in-Inside (layout t) at x cs h each);
    cast = λ x h t at. by-levels _ _ _ _ (ap (at_type t) (L.form-Cast Walk (SvType → Walk) Walk W.choice_step W.form_step W.expr_step x)) (ap (at_both t at) (S.form-Cast x)) (in-Cast (layout t) at x h);
    clog2 = λ x h t at. by-levels _ _ _ _ (ap (at_type t) (L.form-Clog2 Walk (SvType → Walk) Walk W.choice_step W.form_step W.expr_step x)) (ap (at_both t at) (S.form-Clog2 x)) (in-Clog2 (layout t) at x h);
    pattern = λ es each t at. by-levels _ _ _ _ (ap (at_type t) (L.form-Pattern Walk (SvType → Walk) Walk W.choice_step W.form_step W.expr_step es)) (ap (at_both t at) (S.form-Pattern es)) (in-Pattern t at es each);
    call = λ f es each t at. by-levels _ _ _ _ (ap (at_type t) (L.form-Call Walk (SvType → Walk) Walk W.choice_step W.form_step W.expr_step f es)) (ap (at_both t at) (S.form-Call f es)) (in-Call (layout t) at f es each);
    stream = λ reversed n es each t at. by-levels _ _ _ _ (ap (at_type t) (L.form-Stream Walk (SvType → Walk) Walk W.choice_step W.form_step W.expr_step reversed n es)) (ap (at_both t at) (S.form-Stream reversed n es)) (in-Stream (layout t) at reversed n es each);
  }

  pub expr-names : (e : Expr) → Names (walk e) (meaning e)
  expr-names = by-expr NamesChoice NamesForm NamesExpr all-steps

  pub each-names : (es : List Expr) → Each NamesExpr es
  each-names [] = tt
  each-names (e ∷ es) = (expr-names e, each-names es)
