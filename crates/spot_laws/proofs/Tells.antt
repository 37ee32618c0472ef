-- The tokens at which an expression reads and writes, by its operands.
use Rattle.std.proofs.Common.{◌≡◌, ℕ, Bool, true, false, max, cond, ℤ, List, [], ◌∷◌, map, flat_map, zip, Option, Some, None}
use Rattle.std.specs.Prelude.{slice_get}
use Rattle.b4_core.specs.declared.bit.Bit4.{Bit4}
use Rattle.b4_core.specs.declared.operators.UnOp.{UnOp}
use Rattle.b4_core.specs.declared.operators.BinOp.{BinOp}
use Rattle.b4_core.specs.declared.operators.RedOp.{RedOp}
use Rattle.b4_core.specs.declared.operators.ShiftOp.{ShiftOp}
use Rattle.b4_core.specs.declared.operators.OrdOp.{OrdOp}
use Rattle.b4_core.specs.declared.operators.EqOp.{EqOp}
use Rattle.sv_types.specs.declared.types.Value.{Value}
use Rattle.sv_types.specs.Layouts.{Layout, Part, count_of}
use Rattle.sv_types.specs.Windows.{member_of, element_of, between, slide}
use Rattle.sv_types.specs.Surroundings.{Sight, Use, Write, is_signal, local_number}
use Rattle.sv_types.specs.Meanings.{Meaning, Operand, Path, Prefix, use_of, root_sure, writes_of, selected, by_itself, in_context, at_width, wide, most}
use Rattle.sv_types.specs.Operators as O
use Rattle.sv_types.specs.Operators.{Alternative}
use Rattle.sv_types.specs.Paths as P
use Rattle.sv_types.specs.Paths.{reads_from}
use Rattle.sv_types.proofs.Terms.{Each}
use Rattle.spot_laws.proofs.Each.{each-append, each-cond}

module _ (S : ℕ → Type 0) where
  abbrev pub AtUse : Use → Type 0
  AtUse u = S u.at

  -- of writes only those of signals are asked for
  abbrev pub AtWrite : Write → Type 0
  AtWrite w = is_signal w.of.number ≡ true → S w.of.at

  pub record Tells (m : Meaning) : Type 0 where
    pub at : S m.at
    pub reads : (k : Sight) → Each AtUse (m.reads k)
    pub indices : (k : Sight) → Each AtUse (m.indices k)
    pub writes : (k : Sight) → Each AtWrite (m.writes k)

  -- the operands of an expression that is no path
  abbrev Operands : List Operand → Type 0
  Operands ops = Each (λ (p : Operand). Tells p.of) ops

  operand-reads : (ops : List Operand) → Operands ops → (k : Sight) → Each AtUse (flat_map (λ (p : Operand). p.of.reads k) ops)
  operand-reads [] h k = tt
  operand-reads (p ∷ ops) h k = each-append AtUse (p.of.reads k) (flat_map (λ (q : Operand). q.of.reads k) ops) (h.0.reads k) (operand-reads ops h.1 k)

  -- the parts of a target
  part-indices : (ms : List Meaning) → Each Tells ms → (k : Sight) → Each AtUse (flat_map (λ (m : Meaning). m.indices k) ms)
  part-indices [] h k = tt
  part-indices (m ∷ ms) h k = each-append AtUse (m.indices k) (flat_map (λ (n : Meaning). n.indices k) ms) (h.0.indices k) (part-indices ms h.1 k)

  part-writes : (ms : List Meaning) → Each Tells ms → (k : Sight) → Each AtWrite (flat_map (λ (m : Meaning). m.writes k) ms)
  part-writes [] h k = tt
  part-writes (m ∷ ms) h k = each-append AtWrite (m.writes k) (flat_map (λ (n : Meaning). n.writes k) ms) (h.0.writes k) (part-writes ms h.1 k)

  alone : (ms : List Meaning) → Each Tells ms → Operands (map by_itself ms)
  alone [] h = tt
  alone (m ∷ ms) h = (h.0, alone ms h.1)

  -- what a path reads and writes
  used : (root : Option ℕ) (at : ℕ) (p : Prefix) → S at → Each AtUse (use_of root at p)
  used None at p h = tt
  used (Some n) at p h = (h, tt)

  written : (exact : Bool) (root : Option ℕ) (at : ℕ) (p : Prefix) → S at → Each AtWrite (writes_of exact (use_of root at p))
  written exact None at p h = tt
  written exact (Some n) at p h = ((λ is. h), tt)

  tells-selected : (of : Layout) (at : ℕ) (p : Path) → S at → ((k : Sight) → Each AtUse (p.indices k)) → Tells (selected of at p)
  tells-selected of at p h g = record {
    at = h;
    reads = λ k.
        each-append AtUse (cond (root_sure p.root k) [] (use_of p.root at (p.prefix k))) (p.indices k)
        (each-cond AtUse (root_sure p.root k) [] (use_of p.root at (p.prefix k)) tt (used p.root at (p.prefix k) h)) (g k);
    indices = g;
    writes = λ k. written (p.prefix k).exact p.root at (p.prefix k) h;
  }

  from-reads : (root : Option ℕ) (m : Meaning) → Tells m → (k : Sight) → Each AtUse (reads_from root m k)
  from-reads None m h k = h.reads k
  from-reads (Some n) m h k = h.indices k

  pub tells-signal : (of : Layout) (at n : ℕ) → S at → Tells (P.signal of at n)
  unfolding P.signal
  tells-signal of at n h = tells-selected of at (P.root_path n of) h (λ k. tt)

  pub tells-local : (of : Layout) (at n : ℕ) → S at → Tells (P.local of at n)
  unfolding P.local
  tells-local of at n h = tells-selected of at (P.root_path (local_number n) of) h (λ k. tt)

  pub tells-member : (of : Layout) (at : ℕ) (m : Meaning) (k : ℕ) → S at → Tells m → Tells (P.member of at m k)
  unfolding P.member
  tells-member of at m k h g = tells-selected of at (P.fixed_step (member_of (slice_get m.of.members k)) (P.unlike_part of (slice_get m.of.members k)) m) h (from-reads m.root m g)

  pub tells-index : (of : Layout) (at : ℕ) (m i : Meaning) → S at → Tells m → Tells i → Tells (P.index of at m i)
  unfolding P.index
  tells-index of at m i h g f =
      tells-selected of at (P.indexed_step (element_of m.of) (P.unlike of m.of.element.two_state m.of.element.signed) m i) h (λ k. each-append AtUse (reads_from m.root m k) (i.reads k) (from-reads m.root m g k) (f.reads k))

  pub tells-part : (of : Layout) (at : ℕ) (m : Meaning) (left right : ℤ) → S at → Tells m → Tells (P.part_select of at m left right)
  unfolding P.part_select
  tells-part of at m left right h g = tells-selected of at (P.fixed_step (between m.of left right) (P.unlike of (P.elements_marks m.of (count_of left right)) false) m) h (from-reads m.root m g)

  pub tells-sliding : (of : Layout) (at : ℕ) (m i : Meaning) (n : ℕ) (up : Bool) → S at → Tells m → Tells i → Tells (P.sliding of at m i n up)
  unfolding P.sliding
  tells-sliding of at m i n up h g f =
      tells-selected of at (P.indexed_step (slide m.of up n) (P.unlike of (P.elements_marks m.of n) false) m i) h (λ k. each-append AtUse (reads_from m.root m k) (i.reads k) (from-reads m.root m g k) (f.reads k))

  pub tells-literal : (of : Layout) (at : ℕ) (goes_on : Bool) (v : List Bit4) → S at → Tells (O.literal of at goes_on v)
  unfolding O.literal
  tells-literal of at goes_on v h = record { at = h; reads = λ k. tt; indices = λ k. tt; writes = λ k. tt }

  pub tells-fill : (of : Layout) (at : ℕ) (b : Bit4) → S at → Tells (O.fill of at b)
  unfolding O.fill
  tells-fill of at b h = record { at = h; reads = λ k. tt; indices = λ k. tt; writes = λ k. tt }

  pub tells-constant : (of : Layout) (at : ℕ) (v : Value) → S at → Tells (O.constant of at v)
  unfolding O.constant
  tells-constant of at v h = record { at = h; reads = λ k. tt; indices = λ k. tt; writes = λ k. tt }

  pub tells-unary : (of : Layout) (at : ℕ) (op : UnOp) (m : Meaning) → S at → Tells m → Tells (O.unary of at op m)
  unfolding O.unary
  tells-unary of at op m h g =
      let reads = operand-reads (in_context m ∷ []) (g, tt) in
      record { at = h; reads = reads; indices = reads; writes = λ k. tt }

  pub tells-reduce : (of : Layout) (at : ℕ) (op : RedOp) (m : Meaning) → S at → Tells m → Tells (O.reduce of at op m)
  unfolding O.reduce
  tells-reduce of at op m h g =
      let reads = operand-reads (by_itself m ∷ []) (g, tt) in
      record { at = h; reads = reads; indices = reads; writes = λ k. tt }

  pub tells-negate : (of : Layout) (at : ℕ) (m : Meaning) → S at → Tells m → Tells (O.negate of at m)
  unfolding O.negate
  tells-negate of at m h g =
      let reads = operand-reads (by_itself m ∷ []) (g, tt) in
      record { at = h; reads = reads; indices = reads; writes = λ k. tt }

  pub tells-cast : (of : Layout) (at : ℕ) (m : Meaning) → S at → Tells m → Tells (O.cast of at m)
  unfolding O.cast
  tells-cast of at m h g =
      let reads = operand-reads (by_itself m ∷ []) (g, tt) in
      record { at = h; reads = reads; indices = reads; writes = λ k. tt }

  pub tells-clog2 : (of : Layout) (at : ℕ) (m : Meaning) → S at → Tells m → Tells (O.clog2 of at m)
  unfolding O.clog2
  tells-clog2 of at m h g =
      let reads = operand-reads (by_itself m ∷ []) (g, tt) in
      record { at = h; reads = reads; indices = reads; writes = λ k. tt }

  pub tells-binary : (of : Layout) (at : ℕ) (op : BinOp) (l r : Meaning) → S at → Tells l → Tells r → Tells (O.binary of at op l r)
  unfolding O.binary
  tells-binary of at op l r h g f =
      let reads = operand-reads (in_context l ∷ in_context r ∷ []) (g, (f, tt)) in
      record { at = h; reads = reads; indices = reads; writes = λ k. tt }

  pub tells-shift : (of : Layout) (at : ℕ) (op : ShiftOp) (l r : Meaning) → S at → Tells l → Tells r → Tells (O.shift of at op l r)
  unfolding O.shift
  tells-shift of at op l r h g f =
      let reads = operand-reads (in_context l ∷ by_itself r ∷ []) (g, (f, tt)) in
      record { at = h; reads = reads; indices = reads; writes = λ k. tt }

  pub tells-power : (of : Layout) (at : ℕ) (l r : Meaning) → S at → Tells l → Tells r → Tells (O.power of at l r)
  unfolding O.power
  tells-power of at l r h g f =
      let reads = operand-reads (in_context l ∷ by_itself r ∷ []) (g, (f, tt)) in
      record { at = h; reads = reads; indices = reads; writes = λ k. tt }

  pub tells-order : (of : Layout) (at : ℕ) (op : OrdOp) (l r : Meaning) → S at → Tells l → Tells r → Tells (O.order of at op l r)
  unfolding O.order
  tells-order of at op l r h g f =
      let reads = operand-reads (at_width (O.both_wide l r) l ∷ at_width (O.both_wide l r) r ∷ []) (g, (f, tt)) in
      record { at = h; reads = reads; indices = reads; writes = λ k. tt }

  pub tells-equal : (of : Layout) (at : ℕ) (op : EqOp) (negated : Bool) (l r : Meaning) → S at → Tells l → Tells r → Tells (O.equal of at op negated l r)
  unfolding O.equal
  tells-equal of at op negated l r h g f =
      let reads = operand-reads (at_width (O.both_wide l r) l ∷ at_width (O.both_wide l r) r ∷ []) (g, (f, tt)) in
      record { at = h; reads = reads; indices = reads; writes = λ k. tt }

  pub tells-both : (of : Layout) (at : ℕ) (l r : Meaning) → S at → Tells l → Tells r → Tells (O.both of at l r)
  unfolding O.both
  tells-both of at l r h g f =
      let reads = operand-reads (by_itself l ∷ by_itself r ∷ []) (g, (f, tt)) in
      record { at = h; reads = reads; indices = reads; writes = λ k. tt }

  pub tells-either : (of : Layout) (at : ℕ) (l r : Meaning) → S at → Tells l → Tells r → Tells (O.either of at l r)
  unfolding O.either
  tells-either of at l r h g f =
      let reads = operand-reads (by_itself l ∷ by_itself r ∷ []) (g, (f, tt)) in
      record { at = h; reads = reads; indices = reads; writes = λ k. tt }

  pub tells-choose : (of : Layout) (at : ℕ) (on l r : Meaning) → S at → Tells on → Tells l → Tells r → Tells (O.choose of at on l r)
  unfolding O.choose
  tells-choose of at on l r h g f e =
      let reads = operand-reads (by_itself on ∷ in_context l ∷ in_context r ∷ []) (g, (f, (e, tt))) in
      record { at = h; reads = reads; indices = reads; writes = λ k. tt }

  pub tells-concat : (of : Layout) (at : ℕ) (ms : List Meaning) → S at → Each Tells ms → Tells (O.concat of at ms)
  unfolding O.concat
  tells-concat of at ms h g = record { at = h; reads = operand-reads (map by_itself ms) (alone ms g); indices = part-indices ms g; writes = part-writes ms g }

  pub tells-repeat : (of : Layout) (at n : ℕ) (ms : List Meaning) → S at → Each Tells ms → Tells (O.repeat of at n ms)
  unfolding O.repeat
  tells-repeat of at n ms h g =
      let reads = operand-reads (map by_itself ms) (alone ms g) in
      record { at = h; reads = reads; indices = reads; writes = λ k. tt }

  -- alternatives of `inside`
  abbrev pub TellsIt : Alternative → Type 0
  TellsIt (Alternative.Only m) = Tells m
  TellsIt (Alternative.From low high) = Tells low × Tells high

  its-operands : (m : Meaning) (c : Alternative) → TellsIt c → Operands (O.inside_operands m c)
  its-operands m (Alternative.Only v) h = (h, tt)
  its-operands m (Alternative.From low high) h = (h.0, (h.1, tt))

  all-operands : (m : Meaning) (cs : List Alternative) → Each TellsIt cs → Operands (flat_map (O.inside_operands m) cs)
  all-operands m [] h = tt
  all-operands m (c ∷ cs) h = each-append (λ (p : Operand). Tells p.of) (O.inside_operands m c) (flat_map (O.inside_operands m) cs) (its-operands m c h.0) (all-operands m cs h.1)

  pub tells-inside : (of : Layout) (at : ℕ) (m : Meaning) (cs : List Alternative) → S at → Tells m → Each TellsIt cs → Tells (O.inside of at m cs)
  unfolding O.inside
  tells-inside of at m cs h g f =
      let reads = operand-reads (at_width (max (wide m) (most (map (O.inside_width m) cs))) m ∷ flat_map (O.inside_operands m) cs) (g, all-operands m cs f) in
      record { at = h; reads = reads; indices = reads; writes = λ k. tt }

  items : (ps : List Part) (ms : List Meaning) → Each Tells ms → Operands (map (λ p. at_width (O.assigned_width p.0.two_state p.1) p.1) (zip ps ms))
  items [] ms h = tt
  items (p ∷ ps) [] h = tt
  items (p ∷ ps) (m ∷ ms) h = (h.0, items ps ms h.1)

  pub tells-pattern : (of : Layout) (at : ℕ) (ms : List Meaning) → S at → Each Tells ms → Tells (O.pattern of at ms)
  unfolding O.pattern
  tells-pattern of at ms h g =
      let reads = operand-reads (map (λ p. at_width (O.assigned_width p.0.two_state p.1) p.1) (zip (O.parts_of of) ms)) (items (O.parts_of of) ms g) in
      record { at = h; reads = reads; indices = reads; writes = λ k. tt }

  pub tells-call : (of : Layout) (at f : ℕ) (ms : List Meaning) → S at → Each Tells ms → Tells (O.call of at f ms)
  unfolding O.call
  tells-call of at f ms h g =
      let reads = operand-reads (map by_itself ms) (alone ms g) in
      record { at = h; reads = reads; indices = reads; writes = λ k. tt }

  pub tells-stream : (of : Layout) (at : ℕ) (reversed : Bool) (n : ℕ) (ms : List Meaning) → S at → Each Tells ms → Tells (O.stream of at reversed n ms)
  unfolding O.stream
  tells-stream of at reversed n ms h g = record { at = h; reads = operand-reads (map by_itself ms) (alone ms g); indices = part-indices ms g; writes = part-writes ms g }
