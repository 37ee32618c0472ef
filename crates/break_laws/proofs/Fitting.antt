-- Expressions that name each signal and local with as many bits as it has read and write bits that are there.
use Rattle.std.proofs.Common.{◌≡◌, inl, inr, ℕ, ◌==◌, Bool, true, false, ◌&&◌, ◌||◌, cond, ℤ, List, [], ◌∷◌, ◌++◌, map, flat_map, length, Option, Some, None, refl, ap, sym, ◌∙◌, subst}
use Rattle.std.specs.Prelude.{nat_le, nat_lt, slice_get}
use Rattle.std.proofs.lemmas.Bool.{and_parts, or_cases, false≢true, eqb-true}
use Rattle.b4_core.specs.declared.bit.Bit4.{Bit4}
use Rattle.b4_core.specs.Vectors.{ext}
use Rattle.row_machine.specs.Valuation.{Place}
use Rattle.sv_types.specs.declared.types.Value.{Value}
use Rattle.sv_types.specs.declared.expression.Expr.{Expr}
use Rattle.sv_types.specs.declared.expression.Form.{Form}
use Rattle.sv_types.specs.declared.expression.Choice.{Choice}
use Rattle.sv_types.specs.Layouts.{Layout, Part, layout}
use Rattle.sv_types.specs.Windows.{Window, within, member_of, between, element_of, slide}
use Rattle.sv_types.specs.Surroundings.{Around, Sight, Use, Write, local_number}
use Rattle.sv_types.specs.Meanings.{Meaning, Operand, Path, Prefix, plain, selected, by_itself, in_context, at_width, use_of, root_sure, writes_of}
use Rattle.sv_types.specs.Operators as O
use Rattle.sv_types.specs.Operators.{Alternative, four_state, one_bit, compared, parts_of}
use Rattle.sv_types.specs.Paths as P
use Rattle.sv_types.specs.Paths.{root_path, fixed_step, indexed_step, reads_from, narrowed, index_of}
use Rattle.sv_types.specs.Flows.{covered, covers, uses_of}
use Rattle.sv_types.specs.Expressions.{meaning}
use Rattle.sv_types.proofs.Levels as L
use Rattle.sv_types.proofs.Levels.{form_meaning, meaning-form}
use Rattle.sv_types.proofs.Terms.{Steps, Each, by-expr}
use Rattle.flow_laws.specs.Hangs.{Inside}
use Rattle.flow_laws.specs.Statements.{has_width}
use Rattle.flow_laws.proofs.Agreeing.{member-inside, element-inside, between-inside, slide-inside}
use Rattle.flow_laws.proofs.Plain.{operands_of, item_operands}
use Rattle.flow_laws.proofs.Placing.{covered-writes}
use Rattle.break_laws.specs.Widths.{Widths, is_below, is_there, every, expr_fits, all_fit}
use Rattle.break_laws.proofs.FitLevels as T
use Rattle.break_laws.proofs.FitLevels.{form_fits, choice_fits}

pub covered-append : (us vs : List Use) (q : Place) → covered (us ++ vs) q ≡ (covered us q || covered vs q)
covered-append [] vs q = refl
covered-append (u ∷ us) vs q = ap (λ b. covers u q || b) (covered-append us vs q) ∙ sym (again (covers u q) (covered us q) (covered vs q))
  where
    again : (a b c : Bool) → ((a || b) || c) ≡ (a || (b || c))
    again true b c = refl
    again false b c = refl

by-itself-of : (ms : List Meaning) → operands_of (map by_itself ms) ≡ ms
by-itself-of [] = refl
by-itself-of (m ∷ ms) = ap (λ ns. m ∷ ns) (by-itself-of ms)

module _ (widths : Widths) where
  -- all bits of these uses are there
  abbrev pub AllIn : List Use → Type 0
  AllIn us = (q : Place) → covered us q ≡ true → is_there widths q ≡ true

  pub none-in : AllIn []
  none-in q h = absurd (false≢true h)

  pub in-append : (us vs : List Use) → AllIn us → AllIn vs → AllIn (us ++ vs)
  in-append us vs h g q is = elim (or_cases (covered us q) (covered vs q) (sym (covered-append us vs q) ∙ is)) [ inl x ↦ h q x | inr x ↦ g q x ]

  pub writes-append : (xs ys : List Write) → AllIn (uses_of xs) → AllIn (uses_of ys) → AllIn (uses_of (xs ++ ys))
  writes-append xs ys h g q is = elim (or_cases (covered (uses_of xs) q) (covered (uses_of ys) q) (sym (covered-writes xs ys q) ∙ is)) [ inl x ↦ h q x | inr x ↦ g q x ]

  -- one use
  pub use-in : (n low high at : ℕ) → ((j : ℕ) → (nat_le low j && nat_lt j high) ≡ true → is_below (widths n) j ≡ true) → AllIn (record { number = n; low = low; high = high; at = at } ∷ [])
  use-in n low high at h q is = elim (or_cases ((n == q.signal) && (nat_le low q.bit && nat_lt q.bit high)) false is) [
    | inl x ↦ (let two = and_parts (n == q.signal) (nat_le low q.bit && nat_lt q.bit high) x in
        subst (λ m. is_below (widths m) q.bit ≡ true) (eqb-true n q.signal two.0) (h q.bit two.1))
    | inr x ↦ absurd (false≢true x)
  ]

  -- all bits of a signal or local
  pub whole-below : (n w : ℕ) → has_width (widths n) w ≡ true → (j : ℕ) → (nat_le 0 j && nat_lt j w) ≡ true → is_below (widths n) j ≡ true
  whole-below n w has j is = by (widths n) has
    where
      by : (o : Option ℕ) → has_width o w ≡ true → is_below o j ≡ true
      by None h = absurd (false≢true h)
      by (Some v) h = subst (λ x. nat_lt j x ≡ true) (sym (eqb-true v w h)) (and_parts (nat_le 0 j) (nat_lt j w) is).1

  -- the bits that a prefix names of its root
  abbrev RootIn : Option ℕ → Prefix → Type 0
  RootIn None p = Unit {0}
  RootIn (Some n) p = (j : ℕ) → within p.window j ≡ true → is_below (widths n) j ≡ true

  pub record Within (m : Meaning) : Type 0 where
    pub reads : (k : Sight) → AllIn (m.reads k)
    pub indices : (k : Sight) → AllIn (m.indices k)
    pub writes : (k : Sight) → AllIn (uses_of (m.writes k))
    pub root : (k : Sight) → RootIn m.root (m.prefix k)

  abbrev pub AllWithin : List Meaning → Type 0
  AllWithin [] = Unit {0}
  AllWithin (m ∷ ms) = Within m × AllWithin ms

  pub all-reads-in : (ms : List Meaning) → AllWithin ms → (k : Sight) → AllIn (flat_map (λ (m : Meaning). m.reads k) ms)
  all-reads-in [] h k = none-in
  all-reads-in (m ∷ ms) h k = in-append (m.reads k) (flat_map (λ (x : Meaning). x.reads k) ms) (h.0.reads k) (all-reads-in ms h.1 k)

  pub all-indices-in : (ms : List Meaning) → AllWithin ms → (k : Sight) → AllIn (flat_map (λ (m : Meaning). m.indices k) ms)
  all-indices-in [] h k = none-in
  all-indices-in (m ∷ ms) h k = in-append (m.indices k) (flat_map (λ (x : Meaning). x.indices k) ms) (h.0.indices k) (all-indices-in ms h.1 k)

  pub all-writes-in : (ms : List Meaning) → AllWithin ms → (k : Sight) → AllIn (uses_of (flat_map (λ (m : Meaning). m.writes k) ms))
  all-writes-in [] h k = none-in
  all-writes-in (m ∷ ms) h k = writes-append (m.writes k) (flat_map (λ (x : Meaning). x.writes k) ms) (h.0.writes k) (all-writes-in ms h.1 k)

  operands-in : (ps : List Operand) → AllWithin (operands_of ps) → (k : Sight) → AllIn (flat_map (λ (p : Operand). p.of.reads k) ps)
  operands-in [] h k = none-in
  operands-in (p ∷ ps) h k = in-append (p.of.reads k) (flat_map (λ (x : Operand). x.of.reads k) ps) (h.0.reads k) (operands-in ps h.1 k)

  alone-in : (ms : List Meaning) → AllWithin ms → AllWithin (operands_of (map by_itself ms))
  alone-in ms h = subst AllWithin (sym (by-itself-of ms)) h

  -- expressions that are no paths
  plain-in : (of : Layout) (at w : ℕ) (s : Bool) (own : ℕ → ℕ) (ps : List Operand) (value : ℕ → Bool → Around → List Bit4) → AllWithin (operands_of ps) → Within (plain of at w s own ps value)
  plain-in of at w s own ps value h = record {
    reads = λ k. operands-in ps h k;
    indices = λ k. operands-in ps h k;
    writes = λ k. none-in;
    root = λ k. tt;
  }

  four-in : (of : Layout) (at w : ℕ) (s : Bool) (own : ℕ → ℕ) (ps : List Operand) (value : ℕ → Bool → Around → List Bit4) → AllWithin (operands_of ps) → Within (four_state (plain of at w s own ps value))
  four-in of at w s own ps value h = let p = plain-in of at w s own ps value h in record { reads = p.reads; indices = p.indices; writes = p.writes; root = p.root }

  bit-in : (of : Layout) (at : ℕ) (own : ℕ → ℕ) (ps : List Operand) (bit : Around → Bit4) → AllWithin (operands_of ps) → Within (one_bit of at own ps bit)
  bit-in of at own ps bit h = let p = four-in of at 1 false own ps (λ w s a. ext w s (bit a ∷ [])) h in record { reads = p.reads; indices = p.indices; writes = p.writes; root = p.root }

  -- select paths
  named-in : (r : Option ℕ) (at : ℕ) (p : Prefix) → RootIn r p → AllIn (use_of r at p)
  named-in None at p h = none-in
  named-in (Some n) at p h = use-in n p.window.low p.window.high at h

  written-in : (r : Option ℕ) (at : ℕ) (p : Prefix) → RootIn r p → AllIn (uses_of (writes_of p.exact (use_of r at p)))
  written-in None at p h = none-in
  written-in (Some n) at p h = use-in n p.window.low p.window.high at h

  unless-in : (b : Bool) (us : List Use) → AllIn us → AllIn (cond b [] us)
  unless-in true us h = none-in
  unless-in false us h = h

  selected-in : (of : Layout) (at : ℕ) (p : Path) → ((k : Sight) → AllIn (p.indices k)) → ((k : Sight) → RootIn p.root (p.prefix k)) → Within (selected of at p)
  selected-in of at p indices root = record {
    reads = λ k. in-append (cond (root_sure p.root k) [] (use_of p.root at (p.prefix k))) (p.indices k)
        (unless-in (root_sure p.root k) (use_of p.root at (p.prefix k)) (named-in p.root at (p.prefix k) (root k))) (indices k);
    indices = indices;
    writes = λ k. written-in p.root at (p.prefix k) (root k);
    root = root;
  }

  from-in : (r : Option ℕ) (m : Meaning) → Within m → (k : Sight) → AllIn (reads_from r m k)
  from-in None m h k = h.reads k
  from-in (Some n) m h k = h.indices k

  narrowed-in : (r : Option ℕ) (step : Window → Window) → ((path : Window) → Inside (step path) path) → (p : Prefix) → RootIn r p → RootIn r (narrowed step p)
  narrowed-in None step inside p h = tt
  narrowed-in (Some n) step inside p h = by p.exact
    where
      by : (b : Bool) → RootIn (Some n) (cond b (record { window = step p.window; exact = true }) p)
      by true = λ j is. h j (inside p.window j is)
      by false = h

  step-in : (r : Option ℕ) (c : Bool) (step : Window → Window) → ((path : Window) → Inside (step path) path) → (p : Prefix) → RootIn r p
      → RootIn r (cond c (narrowed step p) (record { window = p.window; exact = false }))
  step-in r true step inside p h = narrowed-in r step inside p h
  step-in None false step inside p h = tt
  step-in (Some n) false step inside p h = h

  fixed-in : (of : Layout) (at : ℕ) (step : Window → Window) (misfits : ℕ) (from : Meaning) → ((path : Window) → Inside (step path) path) → Within from → Within (selected of at (fixed_step step misfits from))
  fixed-in of at step misfits from inside h =
      selected-in of at (fixed_step step misfits from) (λ k. from-in from.root from h k) (λ k. narrowed-in from.root step inside (from.prefix k) (h.root k))

  indexed-in : (of : Layout) (at : ℕ) (step : Option ℤ → Window → Window) (misfits : ℕ) (from i : Meaning) → ((o : Option ℤ) (path : Window) → Inside (step o path) path) → Within from → Within i
      → Within (selected of at (indexed_step step misfits from i))
  indexed-in of at step misfits from i inside h g =
      selected-in of at (indexed_step step misfits from i) (λ k. in-append (reads_from from.root from k) (i.reads k) (from-in from.root from h k) (g.reads k))
      (λ k. step-in from.root (i.constant k) (step (index_of i k.around)) (inside (index_of i k.around)) (from.prefix k) (h.root k))

  in-signal : (of : Layout) (at n : ℕ) → has_width (widths n) (length of.two_state) ≡ true → Within (P.signal of at n)
  unfolding P.signal
  in-signal of at n has = selected-in of at (root_path n of) (λ k. none-in) (λ k. whole-below n (length of.two_state) has)

  in-local : (of : Layout) (at n : ℕ) → has_width (widths (local_number n)) (length of.two_state) ≡ true → Within (P.local of at n)
  unfolding P.local
  in-local of at n has = selected-in of at (root_path (local_number n) of) (λ k. none-in) (λ k. whole-below (local_number n) (length of.two_state) has)

  in-member : (of : Layout) (at : ℕ) (m : Meaning) (k : ℕ) → Within m → Within (P.member of at m k)
  unfolding P.member
  in-member of at m k h = fixed-in of at (member_of (slice_get m.of.members k)) _ m (member-inside (slice_get m.of.members k)) h

  in-index : (of : Layout) (at : ℕ) (m i : Meaning) → Within m → Within i → Within (P.index of at m i)
  unfolding P.index
  in-index of at m i h g = indexed-in of at (element_of m.of) _ m i (element-inside m.of) h g

  in-part : (of : Layout) (at : ℕ) (m : Meaning) (left right : ℤ) → Within m → Within (P.part_select of at m left right)
  unfolding P.part_select
  in-part of at m left right h = fixed-in of at (between m.of left right) _ m (between-inside m.of left right) h

  in-sliding : (of : Layout) (at : ℕ) (m i : Meaning) (n : ℕ) (up : Bool) → Within m → Within i → Within (P.sliding of at m i n up)
  unfolding P.sliding
  in-sliding of at m i n up h g = indexed-in of at (slide m.of up n) _ m i (slide-inside m.of up n) h g

  in-literal : (of : Layout) (at : ℕ) (goes_on : Bool) (v : List Bit4) → Within (O.literal of at goes_on v)
  unfolding O.literal
  in-literal of at goes_on v = plain-in of at _ _ O.no_arithmetic [] _ tt

  in-fill : (of : Layout) (at : ℕ) (b : Bit4) → Within (O.fill of at b)
  unfolding O.fill
  in-fill of at b = plain-in of at _ _ O.no_arithmetic [] _ tt

  in-constant : (of : Layout) (at : ℕ) (v : Value) → Within (O.constant of at v)
  unfolding O.constant
  in-constant of at v = plain-in of at _ _ O.no_arithmetic [] _ tt

  in-unary : (of : Layout) (at : ℕ) (op : _) (m : Meaning) → Within m → Within (O.unary of at op m)
  unfolding O.unary
  in-unary of at op m h = four-in of at _ _ _ (in_context m ∷ []) _ (h, tt)

  in-reduce : (of : Layout) (at : ℕ) (op : _) (m : Meaning) → Within m → Within (O.reduce of at op m)
  unfolding O.reduce
  in-reduce of at op m h = bit-in of at _ (by_itself m ∷ []) _ (h, tt)

  in-negate : (of : Layout) (at : ℕ) (m : Meaning) → Within m → Within (O.negate of at m)
  unfolding O.negate
  in-negate of at m h = bit-in of at _ (by_itself m ∷ []) _ (h, tt)

  in-binary : (of : Layout) (at : ℕ) (op : _) (l r : Meaning) → Within l → Within r → Within (O.binary of at op l r)
  unfolding O.binary
  in-binary of at op l r h g = four-in of at _ _ _ (in_context l ∷ in_context r ∷ []) _ (h, (g, tt))

  in-shift : (of : Layout) (at : ℕ) (op : _) (l r : Meaning) → Within l → Within r → Within (O.shift of at op l r)
  unfolding O.shift
  in-shift of at op l r h g = four-in of at _ _ _ (in_context l ∷ by_itself r ∷ []) _ (h, (g, tt))

  in-power : (of : Layout) (at : ℕ) (l r : Meaning) → Within l → Within r → Within (O.power of at l r)
  unfolding O.power
  in-power of at l r h g = four-in of at _ _ _ (in_context l ∷ by_itself r ∷ []) _ (h, (g, tt))

  in-order : (of : Layout) (at : ℕ) (op : _) (l r : Meaning) → Within l → Within r → Within (O.order of at op l r)
  unfolding O.order
  in-order of at op l r h g = bit-in of at _ (compared l r) _ (h, (g, tt))

  in-equal : (of : Layout) (at : ℕ) (op : _) (negated : Bool) (l r : Meaning) → Within l → Within r → Within (O.equal of at op negated l r)
  unfolding O.equal
  in-equal of at op negated l r h g = bit-in of at _ (compared l r) _ (h, (g, tt))

  in-both : (of : Layout) (at : ℕ) (l r : Meaning) → Within l → Within r → Within (O.both of at l r)
  unfolding O.both
  in-both of at l r h g = bit-in of at _ (by_itself l ∷ by_itself r ∷ []) _ (h, (g, tt))

  in-either : (of : Layout) (at : ℕ) (l r : Meaning) → Within l → Within r → Within (O.either of at l r)
  unfolding O.either
  in-either of at l r h g = bit-in of at _ (by_itself l ∷ by_itself r ∷ []) _ (h, (g, tt))

  in-choose : (of : Layout) (at : ℕ) (on l r : Meaning) → Within on → Within l → Within r → Within (O.choose of at on l r)
  unfolding O.choose
  in-choose of at on l r k h g = plain-in of at _ _ _ (by_itself on ∷ in_context l ∷ in_context r ∷ []) _ (k, (h, (g, tt)))

  in-repeat : (of : Layout) (at n : ℕ) (ms : List Meaning) → AllWithin ms → Within (O.repeat of at n ms)
  unfolding O.repeat
  in-repeat of at n ms h = four-in of at _ _ _ (map by_itself ms) _ (alone-in ms h)

  -- what a value may be on the right of `inside`
  abbrev WithinAny : Alternative → Type 0
  WithinAny (Alternative.Only m) = Within m
  WithinAny (Alternative.From low high) = Within low × Within high

  abbrev AllWithinAny : List Alternative → Type 0
  AllWithinAny [] = Unit {0}
  AllWithinAny (c ∷ cs) = WithinAny c × AllWithinAny cs

  inside-in : (m : Meaning) (cs : List Alternative) → AllWithinAny cs → AllWithin (operands_of (flat_map (O.inside_operands m) cs))
  inside-in m [] h = tt
  inside-in m (Alternative.Only v ∷ cs) h = (h.0, inside-in m cs h.1)
  inside-in m (Alternative.From low high ∷ cs) h = (h.0.0, (h.0.1, inside-in m cs h.1))

  in-inside : (of : Layout) (at : ℕ) (m : Meaning) (cs : List Alternative) → Within m → AllWithinAny cs → Within (O.inside of at m cs)
  unfolding O.inside
  in-inside of at m cs h g = bit-in of at _ (at_width _ m ∷ flat_map (O.inside_operands m) cs) _ (h, inside-in m cs g)

  in-cast : (of : Layout) (at : ℕ) (m : Meaning) → Within m → Within (O.cast of at m)
  unfolding O.cast
  in-cast of at m h = plain-in of at _ _ _ (by_itself m ∷ []) _ (h, tt)

  in-clog2 : (of : Layout) (at : ℕ) (m : Meaning) → Within m → Within (O.clog2 of at m)
  unfolding O.clog2
  in-clog2 of at m h = four-in of at _ _ _ (by_itself m ∷ []) _ (h, tt)

  items-in : (fs : List Part) (ms : List Meaning) → AllWithin ms → AllWithin (operands_of (item_operands fs ms))
  items-in [] ms h = tt
  items-in (f ∷ fs) [] h = tt
  items-in (f ∷ fs) (m ∷ ms) h = (h.0, items-in fs ms h.1)

  in-pattern : (of : Layout) (at : ℕ) (ms : List Meaning) → AllWithin ms → Within (O.pattern of at ms)
  unfolding O.pattern
  in-pattern of at ms h = plain-in of at _ _ _ (item_operands (parts_of of) ms) _ (items-in (parts_of of) ms h)

  in-concat : (of : Layout) (at : ℕ) (ms : List Meaning) → AllWithin ms → Within (O.concat of at ms)
  unfolding O.concat
  in-concat of at ms h = record {
    reads = λ k. operands-in (map by_itself ms) (alone-in ms h) k;
    indices = λ k. all-indices-in ms h k;
    writes = λ k. all-writes-in ms h k;
    root = λ k. tt;
  }

  in-stream : (of : Layout) (at : ℕ) (reversed : Bool) (n : ℕ) (ms : List Meaning) → AllWithin ms → Within (O.stream of at reversed n ms)
  unfolding O.stream
  in-stream of at reversed n ms h = record {
    reads = λ k. operands-in (map by_itself ms) (alone-in ms h) k;
    indices = λ k. all-indices-in ms h k;
    writes = λ k. all-writes-in ms h k;
    root = λ k. tt;
  }

  in-call : (of : Layout) (at f : ℕ) (ms : List Meaning) → AllWithin ms → Within (O.call of at f ms)
  unfolding O.call
  in-call of at f ms h = record {
    reads = λ k. operands-in (map by_itself ms) (alone-in ms h) k;
    indices = λ k. operands-in (map by_itself ms) (alone-in ms h) k;
    writes = λ k. none-in;
    root = λ k. tt;
  }

  abbrev FitForm : Form → Type 0
  FitForm f = (of : Layout) (at : ℕ) → form_fits widths f (length of.two_state) ≡ true → Within (form_meaning f of at)

  by-step : (f : Form) (y : Layout → ℕ → Meaning) (z : ℕ → Bool) → form_meaning f ≡ y → form_fits widths f ≡ z → ((of : Layout) (at : ℕ) → z (length of.two_state) ≡ true → Within (y of at)) → FitForm f
  by-step f y z is fits h of at has =
      subst (λ (g : Layout → ℕ → Meaning). Within (g of at)) (sym is) (h of at (sym (ap (λ (g : ℕ → Bool). g (length of.two_state)) fits) ∙ has))

  abbrev FitExpr : Expr → Type 0
  FitExpr e = expr_fits widths e ≡ true → Within (meaning e)

  abbrev FitChoice : Choice → Type 0
  FitChoice c = choice_fits widths c ≡ true → WithinAny (L.alternative c)

  all : (es : List Expr) → Each FitExpr es → every (map (expr_fits widths) es) ≡ true → AllWithin (map meaning es)
  all [] h has = tt
  all (e ∷ es) h has = let two = and_parts (expr_fits widths e) (every (map (expr_fits widths) es)) has in (h.0 two.0, all es h.1 two.1)

  all-any : (cs : List Choice) → Each FitChoice cs → every (map (choice_fits widths) cs) ≡ true → AllWithinAny (map L.alternative cs)
  all-any [] h has = tt
  all-any (c ∷ cs) h has = let two = and_parts (choice_fits widths c) (every (map (choice_fits widths) cs)) has in (h.0 two.0, all-any cs h.1 two.1)

  abbrev fit : Expr → Bool
  fit = expr_fits widths

  steps : Steps FitChoice FitForm FitExpr
  steps = record {
    value = λ e h has. subst WithinAny (sym (L.only e)) (h (sym (T.only widths e) ∙ has));
    range = λ a b h g has. let two = and_parts (fit a) (fit b) (sym (T.from-to widths a b) ∙ has) in subst WithinAny (sym (L.from-to a b)) (h two.0, g two.1);
    expr = λ e h has. subst Within (sym (meaning-form e)) (h (layout e.of) e.spot.at (sym (T.expr-form widths e) ∙ has));
    literal = λ v goes_on. by-step _ _ _ (L.form-Literal v goes_on) (T.form-Literal widths v goes_on) (λ of at has. in-literal of at goes_on v);
    fill = λ b. by-step _ _ _ (L.form-Fill b) (T.form-Fill widths b) (λ of at has. in-fill of at b);
    constant = λ v. by-step _ _ _ (L.form-Constant v) (T.form-Constant widths v) (λ of at has. in-constant of at v);
    signal = λ n. by-step _ _ _ (L.form-Signal n) (T.form-Signal widths n) (λ of at has. in-signal of at n has);
    local = λ n. by-step _ _ _ (L.form-Local n) (T.form-Local widths n) (λ of at has. in-local of at n has);
    member = λ e k h. by-step _ _ _ (L.form-Member e k) (T.form-Member widths e k) (λ of at has. in-member of at (meaning e) k (h has));
    index = λ e i h g. by-step _ _ _ (L.form-Index e i) (T.form-Index widths e i) (λ of at has. let two = and_parts (fit e) (fit i) has in in-index of at (meaning e) (meaning i) (h two.0) (g two.1));
    part_select = λ e left right h. by-step _ _ _ (L.form-Part e left right) (T.form-Part widths e left right) (λ of at has. in-part of at (meaning e) left right (h has));
    sliding = λ e i n up h g. by-step _ _ _ (L.form-Slide e i n up) (T.form-Slide widths e i n up) (λ of at has. let two = and_parts (fit e) (fit i) has in in-sliding of at (meaning e) (meaning i) n up (h two.0) (g two.1));
    unary = λ op e h. by-step _ _ _ (L.form-Unary op e) (T.form-Unary widths op e) (λ of at has. in-unary of at op (meaning e) (h has));
    reduce = λ op e h. by-step _ _ _ (L.form-Reduce op e) (T.form-Reduce widths op e) (λ of at has. in-reduce of at op (meaning e) (h has));
    negate = λ e h. by-step _ _ _ (L.form-Negate e) (T.form-Negate widths e) (λ of at has. in-negate of at (meaning e) (h has));
    binary = λ op a b h g. by-step _ _ _ (L.form-Binary op a b) (T.form-Binary widths op a b) (λ of at has. let two = and_parts (fit a) (fit b) has in in-binary of at op (meaning a) (meaning b) (h two.0) (g two.1));
    shift = λ op a b h g. by-step _ _ _ (L.form-Shift op a b) (T.form-Shift widths op a b) (λ of at has. let two = and_parts (fit a) (fit b) has in in-shift of at op (meaning a) (meaning b) (h two.0) (g two.1));
    power = λ a b h g. by-step _ _ _ (L.form-Power a b) (T.form-Power widths a b) (λ of at has. let two = and_parts (fit a) (fit b) has in in-power of at (meaning a) (meaning b) (h two.0) (g two.1));
    order = λ op a b h g. by-step _ _ _ (L.form-Order op a b) (T.form-Order widths op a b) (λ of at has. let two = and_parts (fit a) (fit b) has in in-order of at op (meaning a) (meaning b) (h two.0) (g two.1));
    equal = λ op negated a b h g. by-step _ _ _ (L.form-Equal op negated a b) (T.form-Equal widths op negated a b) (λ of at has. let two = and_parts (fit a) (fit b) has in in-equal of at op negated (meaning a) (meaning b) (h two.0) (g two.1));
    both = λ a b h g. by-step _ _ _ (L.form-Both a b) (T.form-Both widths a b) (λ of at has. let two = and_parts (fit a) (fit b) has in in-both of at (meaning a) (meaning b) (h two.0) (g two.1));
    either = λ a b h g. by-step _ _ _ (L.form-Either a b) (T.form-Either widths a b) (λ of at has. let two = and_parts (fit a) (fit b) has in in-either of at (meaning a) (meaning b) (h two.0) (g two.1));
    choose = λ on a b h g k. by-step _ _ _ (L.form-Choose on a b) (T.form-Choose widths on a b) (λ of at has.
        let two = and_parts (fit on) (fit a && fit b) has in
        let more = and_parts (fit a) (fit b) two.1 in
        in-choose of at (meaning on) (meaning a) (meaning b) (h two.0) (g more.0) (k more.1));
    concat = λ es h. by-step _ _ _ (L.form-Concat es) (T.form-Concat widths es) (λ of at has. in-concat of at (map meaning es) (all es h has));
    repeat = λ n es h. by-step _ _ _ (L.form-Repeat n es) (T.form-Repeat widths n es) (λ of at has. in-repeat of at n (map meaning es) (all es h has));
    inside = λ e cs h g. by-step _ _ _ (L.form-Inside e cs) (T.form-Inside widths e cs) (λ of at has.
        let two = and_parts (fit e) (every (map (choice_fits widths) cs)) has in in-inside of at (meaning e) (map L.alternative cs) (h two.0) (all-any cs g two.1));
    cast = λ e h. by-step _ _ _ (L.form-Cast e) (T.form-Cast widths e) (λ of at has. in-cast of at (meaning e) (h has));
    clog2 = λ e h. by-step _ _ _ (L.form-Clog2 e) (T.form-Clog2 widths e) (λ of at has. in-clog2 of at (meaning e) (h has));
    pattern = λ es h. by-step _ _ _ (L.form-Pattern es) (T.form-Pattern widths es) (λ of at has. in-pattern of at (map meaning es) (all es h has));
    call = λ f es h. by-step _ _ _ (L.form-Call f es) (T.form-Call widths f es) (λ of at has. in-call of at f (map meaning es) (all es h has));
    stream = λ reversed n es h. by-step _ _ _ (L.form-Stream reversed n es) (T.form-Stream widths reversed n es) (λ of at has. in-stream of at reversed n (map meaning es) (all es h has));
  }

  pub within-all : (e : Expr) → expr_fits widths e ≡ true → Within (meaning e)
  within-all = by-expr FitChoice FitForm FitExpr steps

  pub all-within : (es : List Expr) → all_fit widths es ≡ true → AllWithin (map meaning es)
  all-within [] has = tt
  all-within (e ∷ es) has = let two = and_parts (expr_fits widths e) (all_fit widths es) has in (within-all e two.0, all-within es two.1)
