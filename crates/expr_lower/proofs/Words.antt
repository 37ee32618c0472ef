-- Elements of signals that are memories in the text are read as those of the signals.
use Rattle.std.proofs.Common.{◌≡◌, ℕ, ◌+◌, ◌*◌, ◌<◌, ◌≤◌, ℤ, pos, List, [], ◌∷◌, ◌++◌, length, Option, Some, None, refl, arith, ap, sym, ◌∙◌, subst}
use Rattle.row_machine.specs.Valuation.{Valuation}
use Rattle.row_machine.specs.Places.{vector_at}
use Rattle.picks.specs.Windows.{whole}
use Rattle.sv_types.specs.declared.statement.Function.{Function}
use Rattle.sv_types.specs.declared.expression.Expr.{Expr}
use Rattle.sv_types.specs.declared.expression.Choice.{Choice}
use Rattle.sv_types.specs.declared.expression.Form.{Form}
use Rattle.sv_types.specs.declared.expression.Form.TheVariants as V
use Rattle.sv_types.specs.Layouts.{Layout, layout, width_of, count_of}
use Rattle.sv_types.specs.Windows.{element_of}
use Rattle.sv_types.specs.Surroundings.{Around}
use Rattle.sv_types.specs.Meanings as S
use Rattle.sv_types.specs.Paths as P
use Rattle.sv_types.specs.Expressions.{meaning}
use Rattle.sv_types.proofs.Heads.{heads}
use Rattle.sv_types.proofs.Terms.{Steps, by-expr}
use Rattle.sv_types.proofs.Widths.{has-bits}
use Rattle.v_tree.specs.Names.{Name}
use Rattle.v_tree.specs.declared.names.NameMap.{NameMap}
use Rattle.v_meaning.specs.Scopes.{Scope, named}
use Rattle.v_meaning.specs.Values as T
use Rattle.eval_parts.proofs.Selecting as E
use Rattle.lowering_laws.specs.Agreeing.{Images, Agree}
use Rattle.lowering_laws.specs.NamedImages.{AreImages}
use Rattle.lowering_laws.specs.Steps.{IsPath}
use Rattle.lowering_laws.specs.Words.{IsMemory}
use Rattle.lowering_laws.proofs.Paths.{selected-is-path}
use Rattle.lowering_laws.proofs.Wholes.{type-whole}
use Rattle.memory_laws.specs.InWords.{HoldWords}
use Rattle.memory_laws.proofs.Holding.{memory-held}
use Rattle.memory_laws.proofs.Ranking.{rank-below, row-inside}
use Rattle.path_flatten.specs.declared.offsets.Index.{Index}
use Rattle.path_flatten.specs.declared.readings.Reading.{Reading}
use Rattle.path_flatten.specs.Naming.{root_names}
use Rattle.path_flatten.specs.Sliding.{IsIndexOf}
use Rattle.path_flatten.specs.Stepping as F
use Rattle.path_steps.specs.Known.{IsKnown}
use Rattle.path_steps.specs.Stands.{stand_names}
use Rattle.path_steps.proofs.PathNames.{NamedStep, images-like, step-images, fixed-images}
use Rattle.path_steps.proofs.PathSteps as W
use Rattle.memory_words.specs.Readings.{ReadsKnownWord, NamesMemory}
use Rattle.expr_lower.specs.Elements.{StandsInWords, ReadsWordBy, NamesWordBy}
use Rattle.expr_lower.specs.Leaves.{Leaf, Signals, Elements, Inside, Locals, Calls, Valued, Joined, Unlowered, leaves, onto, indexed, Each}
use Rattle.name_maps.specs.Named.{signal_name, OneSignal}
use Rattle.expr_lower.specs.Lowering.{IsShownInWords, ShowsElements, LeafStands}
use Rattle.expr_lower.specs.Paths.{Found}
use Rattle.expr_lower.proofs.AskedLeaves as A
use Rattle.expr_lower.proofs.Values.{one-image}

-- An expression with the leaf of a whole signal is one.
onto-other : (ls rest : List Leaf) (n : ℕ) (of : Layout) → onto ls ≡ Signals n of ∷ rest → ⊥
onto-other [] rest n of e = cc
onto-other (Signals m f ∷ ls) rest n of e = cc
onto-other (Elements m f ∷ ls) rest n of e = cc
onto-other (Inside m f ∷ ls) rest n of e = cc
onto-other (Locals m f ∷ ls) rest n of e = cc
onto-other (Calls m f k ∷ ls) rest n of e = cc
onto-other (Valued ∷ ls) rest n of e = cc
onto-other (Joined ∷ ls) rest n of e = cc
onto-other (Unlowered ∷ ls) rest n of e = cc

onto-both : (ls more rest : List Leaf) (n : ℕ) (of : Layout) → onto ls ++ more ≡ Signals n of ∷ rest → ⊥
onto-both [] more rest n of e = cc
onto-both (Signals m f ∷ ls) more rest n of e = cc
onto-both (Elements m f ∷ ls) more rest n of e = cc
onto-both (Inside m f ∷ ls) more rest n of e = cc
onto-both (Locals m f ∷ ls) more rest n of e = cc
onto-both (Calls m f k ∷ ls) more rest n of e = cc
onto-both (Valued ∷ ls) more rest n of e = cc
onto-both (Joined ∷ ls) more rest n of e = cc
onto-both (Unlowered ∷ ls) more rest n of e = cc

indexed-both : (ls more rest : List Leaf) (n : ℕ) (of : Layout) → indexed ls ++ more ≡ Signals n of ∷ rest → ⊥
indexed-both [] more rest n of e = cc
indexed-both (Signals m f ∷ []) more rest n of e = cc
indexed-both (Signals m f ∷ l ∷ ls) more rest n of e = cc
indexed-both (Elements m f ∷ ls) more rest n of e = cc
indexed-both (Inside m f ∷ ls) more rest n of e = cc
indexed-both (Locals m f ∷ ls) more rest n of e = cc
indexed-both (Calls m f k ∷ ls) more rest n of e = cc
indexed-both (Valued ∷ ls) more rest n of e = cc
indexed-both (Joined ∷ ls) more rest n of e = cc
indexed-both (Unlowered ∷ ls) more rest n of e = cc

valued-other : (ls rest : List Leaf) (n : ℕ) (of : Layout) → Valued ∷ ls ≡ Signals n of ∷ rest → ⊥
valued-other ls rest n of e = cc

joined-other : (ls rest : List Leaf) (n : ℕ) (of : Layout) → Joined ∷ ls ≡ Signals n of ∷ rest → ⊥
joined-other ls rest n of e = cc

unlowered-other : (ls rest : List Leaf) (n : ℕ) (of : Layout) → Unlowered ∷ ls ≡ Signals n of ∷ rest → ⊥
unlowered-other ls rest n of e = cc

call-other : (f k : ℕ) (to : Layout) (ls rest : List Leaf) (n : ℕ) (of : Layout) → Calls f to k ∷ ls ≡ Signals n of ∷ rest → ⊥
call-other f k to ls rest n of e = cc

local-other : (k : ℕ) (to : Layout) (ls rest : List Leaf) (n : ℕ) (of : Layout) → Locals k to ∷ ls ≡ Signals n of ∷ rest → ⊥
local-other k to ls rest n of e = cc

same-signal : (k n : ℕ) (to of : Layout) (ls rest : List Leaf) → Signals k to ∷ ls ≡ Signals n of ∷ rest → k ≡ n
same-signal k n to of ls rest e = cc

abbrev SignalForm : Form → Type 0
SignalForm f = (e : Expr) → e.form ≡ f → (n : ℕ) (of : Layout) (rest : List Leaf) → leaves e ≡ Signals n of ∷ rest → e.form ≡ V.Signal n

abbrev SignalExpr : Expr → Type 0
SignalExpr e = (n : ℕ) (of : Layout) (rest : List Leaf) → leaves e ≡ Signals n of ∷ rest → e.form ≡ V.Signal n

abbrev AnyChoice : Choice → Type 0
AnyChoice c = Unit {0}

valued-form : (e : Expr) (ls : List Leaf) → leaves e ≡ Valued ∷ ls → SignalExpr e
valued-form e ls is n of rest h = absurd (valued-other ls rest n of (sym is ∙ h))

signal-steps : Steps AnyChoice SignalForm SignalExpr
signal-steps = record {
  value = λ e h. tt;
  range = λ low high h g. tt;
  expr = λ e h. h e refl;
  literal = λ v goes_on e is. valued-form e _ (A.leaves-Literal e v goes_on is);
  fill = λ b e is. valued-form e _ (A.leaves-Fill e b is);
  constant = λ v e is. valued-form e _ (A.leaves-Constant e v is);
  signal = λ k e is n of rest h. is ∙ ap V.Signal (same-signal k n _ of _ rest (sym (A.leaves-Signal e k is) ∙ h));
  local = λ k e is n of rest h. absurd (local-other k _ _ rest n of (sym (A.leaves-Local e k is) ∙ h));
  member = λ x k h0 e is n of rest h. absurd (onto-other (leaves x) rest n of (sym (A.leaves-Member e x k is) ∙ h));
  index = λ x y h0 h1 e is n of rest h. absurd (indexed-both (leaves x) (leaves y) rest n of (sym (A.leaves-Index e x y is) ∙ h));
  part_select = λ x left right h0 e is n of rest h. absurd (onto-other (leaves x) rest n of (sym (A.leaves-Part e x left right is) ∙ h));
  sliding = λ x y m up h0 h1 e is n of rest h. absurd (onto-both (leaves x) (leaves y) rest n of (sym (A.leaves-Slide e x y m up is) ∙ h));
  unary = λ op x h1 e is. valued-form e _ (A.leaves-Unary e op x is);
  reduce = λ op x h1 e is. valued-form e _ (A.leaves-Reduce e op x is);
  negate = λ x h0 e is. valued-form e _ (A.leaves-Negate e x is);
  binary = λ op x y h1 h2 e is. valued-form e _ (A.leaves-Binary e op x y is);
  shift = λ op x y h1 h2 e is. valued-form e _ (A.leaves-Shift e op x y is);
  power = λ x y h0 h1 e is. valued-form e _ (A.leaves-Power e x y is);
  order = λ op x y h1 h2 e is. valued-form e _ (A.leaves-Order e op x y is);
  equal = λ op negated x y h2 h3 e is. valued-form e _ (A.leaves-Equal e op negated x y is);
  both = λ x y h0 h1 e is. valued-form e _ (A.leaves-Both e x y is);
  either = λ x y h0 h1 e is. valued-form e _ (A.leaves-Either e x y is);
  choose = λ z x y h0 h1 h2 e is. valued-form e _ (A.leaves-Choose e z x y is);
  concat = λ es h0 e is n of rest h. absurd (joined-other _ rest n of (sym (A.leaves-Concat e es is) ∙ h));
  repeat = λ m es h1 e is. valued-form e _ (A.leaves-Repeat e m es is);
  inside = λ x cs h0 h1 e is. valued-form e _ (A.leaves-Inside e x cs is);
  cast = λ x h0 e is. valued-form e _ (A.leaves-Cast e x is);
  clog2 = λ x h0 e is. valued-form e _ (A.leaves-Clog2 e x is);
  pattern = λ es h0 e is. valued-form e _ (A.leaves-Pattern e es is);
  call = λ f es h1 e is n of rest h. absurd (call-other f _ _ _ rest n of (sym (A.leaves-Call e f es is) ∙ h));
  stream = λ reversed m es h2 e is n of rest h. absurd (unlowered-other _ rest n of (sym (A.leaves-Stream e reversed m es is) ∙ h));
}

signal-form : (e : Expr) → SignalExpr e
signal-form = by-expr AnyChoice SignalForm SignalExpr signal-steps

-- which expressions are no whole signals that are memories
pub stands-plain : (names : NameMap) (e : Expr) → ((n : ℕ) → e.form ≡ V.Signal n → ⊥) → StandsInWords names e None
stands-plain names e other n is = absurd (other n is)

-- What an index selects from has its leaves alone, if it is no memory.
pub plain-leaves : (names : NameMap) (fs : List Function) (im : Images) (a : Around) (sc : Scope) (x y : Expr) → StandsInWords names x None
    → Each (LeafStands names fs im a sc) (indexed (leaves x) ++ leaves y) → Each (LeafStands names fs im a sc) (leaves x)
plain-leaves names fs im a sc x y plain all =
    A.off-index (LeafStands names fs im a sc) (λ n of h. h) (leaves x)
    (λ n of is h. (h.0, subst (λ b. ShowsElements b (signal_name names.signals n) im sc n of) (plain n (signal-form x n of [] is) h.0) h.1))
    (A.each-left (LeafStands names fs im a sc) (indexed (leaves x)) (leaves y) all)

-- A memory that shows a signal holds what it does.
module _ (of : Layout) (n : ℕ) (name : Name) (im : Images) (sc : Scope) (now v : Valuation) (shown : IsShownInWords name im sc n of) (agree : Agree im now v)
    (all : count_of of.left of.right * length of.element.two_state ≡ length of.two_state) where
  words-hold : HoldWords of (named sc.names name).number n v now
  words-hold x q j k word few ranked less =
      let w = length of.element.two_state in
      let at = rank-below of k x word few in
      let below : q * w + j < im.width n = inside q at.q (same q at.q (sym ranked ∙ at.is)) at.below j less in
      (λ d. v (record { signal = shown.number d; bit = sym (shown.in_words x q j k word few ranked less) d })) ∙ agree.same n (q * w + j) below
    where
      same : (a b : ℕ) → pos a ≡ pos b → a ≡ b
      same a b e = cc

      inside : (a b : ℕ) → a ≡ b → b < count_of of.left of.right → (i : ℕ) → i < length of.element.two_state → a * length of.element.two_state + i < im.width n
      inside a b e h i g =
          let room = row-inside b (count_of of.left of.right) (length of.element.two_state) h in
          let row : a * length of.element.two_state ≡ b * length of.element.two_state = ap (λ y. y * length of.element.two_state) e in
          let image = shown.image in
          omega arith

pub shown-memory : (x : Expr) (n : ℕ) (name : Name) (im : Images) (a : Around) (sc : Scope) (v : Valuation) → x.form ≡ V.Signal n → 1 ≤ width_of x.of → IsShownInWords name im sc n (layout x.of)
    → Agree im a.now v → IsMemory (meaning x) a (named sc.names name) v
shown-memory x n name im a sc v is some shown agree =
    let of = layout x.of in
    let all = (type-whole x.of some).elements in
    let path = W.signal-path (layout x.of) x.spot.at n a in
    let level = E.same-Signal x n is in
    memory-held (layout x.of) n (meaning x) a name sc v a.now (heads x).kind
    (ap (λ (m : S.Meaning). m.window a) level ∙ path.window ∙ ap whole (sym all))
    (ap (λ (m : S.Meaning). m.base a) level ∙ path.base ∙ ap (vector_at a.now n) (sym all))
    (record { words = shown.words; bits = shown.width })
    (words-hold (layout x.of) n name im sc a.now v shown agree all)

index-path : (of : Layout) (at : ℕ) (from i : S.Meaning) (a : Around) → IsPath (P.index of at from i) a
unfolding P.index
index-path of at from i a = selected-is-path of at _ a

-- What is known of the leaf of a memory, and of those behind it.
pub record MemoryLeaf (names : NameMap) (fs : List Function) (im : Images) (a : Around) (sc : Scope) (x y : Expr) (n : ℕ) : Type 0 where
  pub one : OneSignal names.signals n
  pub shown : IsShownInWords (signal_name names.signals n) im sc n (layout x.of)
  pub rest : Each (LeafStands names fs im a sc) (leaves y)

pub shown-leaf : (names : NameMap) (fs : List Function) (im : Images) (a : Around) (sc : Scope) (x y : Expr) (n : ℕ) → StandsInWords names x (Some n)
    → Each (LeafStands names fs im a sc) (indexed (leaves x) ++ leaves y) → MemoryLeaf names fs im a sc x y n
shown-leaf names fs im a sc x y n stands all =
    let leaf = subst (λ ls. Each (LeafStands names fs im a sc) (indexed ls ++ leaves y)) (A.leaves-Signal x n stands.0) all in
    record { one = leaf.0.0; shown = subst (λ b. ShowsElements b (signal_name names.signals n) im sc n (layout x.of)) (stands.1 leaf.0.0) leaf.0.1; rest = leaf.1 }

-- An element by an index, and by a known one.
module _ (names : NameMap) (e x i : Expr) (n : ℕ) (is : e.form ≡ V.Index x i) (typed : (meaning e).misfits ≡ 0) (typed_x : (meaning x).misfits ≡ 0) (stands : StandsInWords names x (Some n))
    (im : Images) (a : Around) (sc : Scope) (shown : IsShownInWords (signal_name names.signals n) im sc n (layout x.of)) where
  abbrev name : Name
  name = signal_name names.signals n

  abbrev step : S.Meaning
  step = P.index (layout e.of) e.spot.at (meaning x) (meaning i)

  level : meaning e ≡ step
  level = E.same-Index e x i is

  some : 1 ≤ width_of x.of
  some = subst (λ (l : Layout). 1 ≤ length l.two_state) (heads x).kind (has-bits x typed_x)

  all : count_of (meaning x).of.left (meaning x).of.right * length (meaning x).of.element.two_state ≡ S.wide (meaning x)
  all =
      (λ d. count_of ((heads x).kind d).left ((heads x).kind d).right * length ((heads x).kind d).element.two_state) ∙ (type-whole x.of some).elements
      ∙ sym (ap (λ (l : Layout). length l.two_state) (heads x).kind)

  wide : S.wide step ≡ length (meaning x).of.element.two_state
  wide = W.index-wide (layout e.of) e.spot.at (meaning x) (meaning i) (subst (λ (m : S.Meaning). m.misfits ≡ 0) level typed)

  memory-named : AreImages im.number (stand_names (meaning x)) ((named sc.names name).number ∷ [])
  memory-named =
      let path = W.signal-path (layout x.of) x.spot.at n a in
      subst (λ l. AreImages im.number l ((named sc.names name).number ∷ [])) (sym (ap stand_names (E.same-Signal x n stands.0) ∙ path.stands))
      (one-image im.number n (named sc.names name).number (layout x.of) shown.number)

  pub word-found : (y : Index) (r : Reading) → ((now v : Valuation) → Agree im now v → IsIndexOf y (meaning i) (record a { now = now }) sc v) → AreImages im.number (meaning i).names ((T.meaning y.expr).names sc)
      → ReadsWordBy name x.of y r → NamesWordBy name y r → Found im a sc (meaning e) r
  word-found y r index images reads named_all =
      subst (λ (m : S.Meaning). Found im a sc m r) (sym level) (record {
        reads = λ now v agree.
            (let b : Around = record a { now = now } in
            reads step (meaning x) (meaning i) b sc v (heads x).kind (index-path (layout e.of) e.spot.at (meaning x) (meaning i) b) (W.index-step (layout e.of) e.spot.at (meaning x) (meaning i) b) wide all
            (shown-memory x n name im b sc v stands.0 some shown agree) (index now v agree));
        names = step-images im.number step (meaning x) (meaning i).names ((named sc.names name).number ∷ []) ((T.meaning y.expr).names sc) (root_names r.root sc)
            (W.index-named (layout e.of) e.spot.at (meaning x) (meaning i)) memory-named images (named_all sc);
      })

  pub known-word-found : (z : Option ℤ) (r : Reading) → IsKnown i z → ReadsKnownWord name x.of z r → NamesMemory name r → Found im a sc (meaning e) r
  known-word-found z r known reads named_all =
      subst (λ (m : S.Meaning). Found im a sc m r) (sym level) (record {
        reads = λ now v agree.
            (let b : Around = record a { now = now } in
            reads step (meaning x) b sc v (heads x).kind (index-path (layout e.of) e.spot.at (meaning x) (meaning i) b)
            (subst (λ k. F.IsStep step (meaning x) b (element_of (meaning x).of k)) (known.number b) (W.index-step (layout e.of) e.spot.at (meaning x) (meaning i) b)) wide all
            (shown-memory x n name im b sc v stands.0 some shown agree));
        names = images-like im.number (stand_names step) ((named sc.names name).number ∷ []) (root_names r.root sc)
            (fixed-images im.number step (meaning x) ((named sc.names name).number ∷ []) (subst (NamedStep step (meaning x)) known.none (W.index-named (layout e.of) e.spot.at (meaning x) (meaning i))) memory-named)
            (named_all sc);
      })
