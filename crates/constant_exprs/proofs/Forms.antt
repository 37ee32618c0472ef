-- What each form is made of: it is constant where that is.
use Rattle.std.proofs.Common.{◌≡◌, inl, inr, ℕ, max, Bool, true, false, ◌&&◌, cond, ℤ, List, [], ◌∷◌, ◌++◌, map, flat_map, take, length, Option, Some, None, refl, ap, sym, ◌∙◌, subst}
use Rattle.std.specs.List.{list_all}
use Rattle.std.specs.Prelude.{slice_get}
use Rattle.b4_core.specs.declared.bit.Bit4.{Bit4}
use Rattle.b4_core.specs.declared.operators.UnOp.{UnOp}
use Rattle.b4_core.specs.declared.operators.BinOp.{BinOp}
use Rattle.b4_core.specs.declared.operators.RedOp.{RedOp}
use Rattle.b4_core.specs.declared.operators.ShiftOp.{ShiftOp}
use Rattle.b4_core.specs.declared.operators.OrdOp.{OrdOp}
use Rattle.b4_core.specs.declared.operators.EqOp.{EqOp}
use Rattle.b4_core.specs.Vectors.{ext}
use Rattle.sv_types.specs.declared.types.Value.{Value}
use Rattle.sv_types.specs.Layouts.{Layout}
use Rattle.sv_types.specs.Windows.{Window, member_of, element_of, between, slide}
use Rattle.sv_types.specs.Surroundings.{Around, Sight, local_number}
use Rattle.sv_types.specs.Meanings.{Meaning, Named, Operand, Path, Prefix, plain, selected, root_sure, wide, by_itself, in_context, at_width, most}
use Rattle.sv_types.specs.Operators as O
use Rattle.sv_types.specs.Operators.{Alternative, compared, parts_of, four_state, one_bit}
use Rattle.sv_types.specs.Paths as P
use Rattle.sv_types.specs.Paths.{names_of_root, narrowed, known_base, fixed_step, indexed_step, root_path, index_of}
use Rattle.flow_laws.proofs.Agreeing.{empty-left}
use Rattle.flow_laws.proofs.Plain.{operands_of, item_operands}
use Rattle.constant_exprs.specs.Constants.{IsBlind, ConstantIf, AllConstantIf, meanings_in}
use Rattle.constant_exprs.proofs.Lists.{all-constant, none-named, none-indexed, only, operands-constant, operands-named, each-alone, each-placed}

-- Operators and the other forms that are no select paths.
module _ (of : Layout) (at w : ℕ) (s : Bool) (own : ℕ → ℕ) (ps : List Operand) (value : ℕ → Bool → Around → List Bit4) (b : Bool) (ms : List Meaning) (are : operands_of ps ≡ ms) (h : AllConstantIf b ms) where
  all-sure : (k : Sight) → IsBlind k → list_all (λ (p : Operand). p.of.constant k) ps ≡ b
  all-sure k blind = operands-constant ps k ∙ ap (list_all (λ (m : Meaning). m.constant k)) are ∙ all-constant b ms h k blind

  no-names : b ≡ true → flat_map (λ (p : Operand). p.of.names) ps ≡ []
  no-names is = operands-named ps ∙ ap (flat_map (λ (m : Meaning). m.names)) are ∙ none-named b ms h is

  plain-constant : ConstantIf b (plain of at w s own ps value)
  plain-constant = record { constant = all-sure; exact = λ k blind root. all-sure k blind; rooted = λ n is. absurd (cc); none = no-names; index_none = no-names }

  four-constant : ConstantIf b (four_state (plain of at w s own ps value))
  four-constant = record { constant = all-sure; exact = λ k blind root. all-sure k blind; rooted = λ n is. absurd (cc); none = no-names; index_none = no-names }

pub in-Literal : (of : Layout) (at : ℕ) (v : List Bit4) (goes_on : Bool) → ConstantIf true (O.literal of at goes_on v)
unfolding O.literal
in-Literal of at v goes_on = plain-constant of at _ _ O.no_arithmetic [] _ true [] refl refl

pub in-Fill : (of : Layout) (at : ℕ) (x : Bit4) → ConstantIf true (O.fill of at x)
unfolding O.fill
in-Fill of at x = plain-constant of at _ _ O.no_arithmetic [] _ true [] refl refl

pub in-Constant : (of : Layout) (at : ℕ) (v : Value) → ConstantIf true (O.constant of at v)
unfolding O.constant
in-Constant of at v = plain-constant of at _ _ O.no_arithmetic [] _ true [] refl refl

module _ (of : Layout) (at : ℕ) (b : Bool) (m : Meaning) (h : AllConstantIf b (m ∷ [])) where
  pub in-Unary : (op : UnOp) → ConstantIf b (O.unary of at op m)
  unfolding O.unary
  in-Unary op = four-constant of at _ _ _ (in_context m ∷ []) _ b (m ∷ []) refl h

  pub in-Reduce : (op : RedOp) → ConstantIf b (O.reduce of at op m)
  unfolding O.reduce
  in-Reduce op = four-constant of at _ _ _ (by_itself m ∷ []) _ b (m ∷ []) refl h

  pub in-Negate : ConstantIf b (O.negate of at m)
  unfolding O.negate
  in-Negate = four-constant of at _ _ _ (by_itself m ∷ []) _ b (m ∷ []) refl h

  pub in-Cast : ConstantIf b (O.cast of at m)
  unfolding O.cast
  in-Cast = plain-constant of at _ _ _ (by_itself m ∷ []) _ b (m ∷ []) refl h

  pub in-Clog2 : ConstantIf b (O.clog2 of at m)
  unfolding O.clog2
  in-Clog2 = four-constant of at _ _ _ (by_itself m ∷ []) _ b (m ∷ []) refl h

module _ (of : Layout) (at : ℕ) (b : Bool) (l r : Meaning) (h : AllConstantIf b (l ∷ r ∷ [])) where
  pub in-Binary : (op : BinOp) → ConstantIf b (O.binary of at op l r)
  unfolding O.binary
  in-Binary op = four-constant of at _ _ _ (in_context l ∷ in_context r ∷ []) _ b (l ∷ r ∷ []) refl h

  pub in-Shift : (op : ShiftOp) → ConstantIf b (O.shift of at op l r)
  unfolding O.shift
  in-Shift op = four-constant of at _ _ _ (in_context l ∷ by_itself r ∷ []) _ b (l ∷ r ∷ []) refl h

  pub in-Power : ConstantIf b (O.power of at l r)
  unfolding O.power
  in-Power = four-constant of at _ _ _ (in_context l ∷ by_itself r ∷ []) _ b (l ∷ r ∷ []) refl h

  pub in-Order : (op : OrdOp) → ConstantIf b (O.order of at op l r)
  unfolding O.order
  in-Order op = four-constant of at _ _ _ (compared l r) _ b (l ∷ r ∷ []) refl h

  pub in-Equal : (op : EqOp) (negated : Bool) → ConstantIf b (O.equal of at op negated l r)
  unfolding O.equal
  in-Equal op negated = four-constant of at _ _ _ (compared l r) _ b (l ∷ r ∷ []) refl h

  pub in-Both : ConstantIf b (O.both of at l r)
  unfolding O.both
  in-Both = four-constant of at _ _ _ (by_itself l ∷ by_itself r ∷ []) _ b (l ∷ r ∷ []) refl h

  pub in-Either : ConstantIf b (O.either of at l r)
  unfolding O.either
  in-Either = four-constant of at _ _ _ (by_itself l ∷ by_itself r ∷ []) _ b (l ∷ r ∷ []) refl h

pub in-Choose : (of : Layout) (at : ℕ) (b : Bool) (on l r : Meaning) → AllConstantIf b (on ∷ l ∷ r ∷ []) → ConstantIf b (O.choose of at on l r)
unfolding O.choose
in-Choose of at b on l r h = plain-constant of at _ _ _ (by_itself on ∷ in_context l ∷ in_context r ∷ []) _ b (on ∷ l ∷ r ∷ []) refl h

module _ (of : Layout) (at : ℕ) (b : Bool) (ms : List Meaning) (h : AllConstantIf b ms) where
  pub in-Concat : ConstantIf b (O.concat of at ms)
  unfolding O.concat
  in-Concat =
      let p = four-constant of at (O.width_of_all ms) false O.no_arithmetic (map by_itself ms) (λ w s a. ext w s (O.joined ms a)) b ms (each-alone ms) h in
      record { constant = p.constant; exact = p.exact; rooted = p.rooted; none = p.none; index_none = none-indexed b ms h }

  pub in-Repeat : (n : ℕ) → ConstantIf b (O.repeat of at n ms)
  unfolding O.repeat
  in-Repeat n = four-constant of at _ _ _ (map by_itself ms) _ b ms (each-alone ms) h

  pub in-Call : (f : ℕ) → ConstantIf b (O.call of at f ms)
  unfolding O.call
  in-Call f =
      let p = plain-constant of at (length of.two_state) of.signed O.no_arithmetic (map by_itself ms) (λ w s a. ext w s ((a.callee f).run (O.passed (a.callee f).formals ms a)).result) b ms (each-alone ms) h in
      record { constant = p.constant; exact = p.exact; rooted = p.rooted; none = p.none; index_none = p.index_none }

  pub in-Stream : (reversed : Bool) (n : ℕ) → ConstantIf b (O.stream of at reversed n ms)
  unfolding O.stream
  in-Stream reversed n =
      let p = plain-constant of at (O.width_of_all ms) false O.no_arithmetic (map by_itself ms) (λ c s a. ext c false (O.streamed reversed n (O.joined ms a))) b ms (each-alone ms) h in
      record { constant = p.constant; exact = p.exact; rooted = p.rooted; none = p.none; index_none = none-indexed b ms h }

pub in-Pattern : (of : Layout) (at : ℕ) (b : Bool) (ms : List Meaning) → AllConstantIf b (take (length (parts_of of)) ms) → ConstantIf b (O.pattern of at ms)
unfolding O.pattern
in-Pattern of at b ms h = plain-constant of at _ _ _ (item_operands (parts_of of) ms) _ b (take (length (parts_of of)) ms) (each-placed (parts_of of) ms) h

abbrev pub all_in : List Alternative → List Meaning
all_in [] = []
all_in (c ∷ cs) = meanings_in c ++ all_in cs

inside-are : (m : Meaning) (cs : List Alternative) → operands_of (flat_map (O.inside_operands m) cs) ≡ all_in cs
inside-are m [] = refl
inside-are m (Alternative.Only v ∷ cs) = ap (λ ns. v ∷ ns) (inside-are m cs)
inside-are m (Alternative.From low high ∷ cs) = ap (λ ns. low ∷ high ∷ ns) (inside-are m cs)

pub in-Inside : (of : Layout) (at : ℕ) (b : Bool) (m : Meaning) (cs : List Alternative) → AllConstantIf b (m ∷ all_in cs) → ConstantIf b (O.inside of at m cs)
unfolding O.inside
in-Inside of at b m cs h =
    four-constant of at _ _ _ (at_width (max (wide m) (most (map (O.inside_width m) cs))) m ∷ flat_map (O.inside_operands m) cs) _ b (m ∷ all_in cs) (ap (λ ns. m ∷ ns) (inside-are m cs)) h

-- Select paths: one that stands on a signal or local is never constant.
and-false : (a : Bool) → (a && false) ≡ false
and-false true = refl
and-false false = refl

constant-by : (r : Option ℕ) (k : Sight) → IsBlind k → (e c b : Bool) → ((n : ℕ) → r ≡ Some n → b ≡ false) → (r ≡ None → e ≡ b) → (r ≡ None → b ≡ true → c ≡ true) → (e && (c && root_sure r k)) ≡ b
constant-by None k blind e c true rooted exact base = ap (λ x. x && (c && true)) (exact refl) ∙ ap (λ x. x && true) (base refl refl)
constant-by None k blind e c false rooted exact base = ap (λ x. x && (c && true)) (exact refl)
constant-by (Some n) k blind e c b rooted exact base =
    ap (λ x. e && (c && x)) (blind (record { signal = n; bit = 0 })) ∙ ap (λ x. e && x) (and-false c) ∙ and-false e ∙ sym (rooted n refl)

path-constant : (of : Layout) (at : ℕ) (p : Path) (b : Bool) → ((k : Sight) → IsBlind k → p.root ≡ None → (p.prefix k).exact ≡ b) → ((n : ℕ) → p.root ≡ Some n → b ≡ false)
    → ((k : Sight) → IsBlind k → p.root ≡ None → b ≡ true → p.constant_base k ≡ true) → (b ≡ true → p.root_names ≡ []) → (b ≡ true → p.index_names ≡ []) → ConstantIf b (selected of at p)
path-constant of at p b exact rooted base none index_none = record {
  constant = λ k blind. constant-by p.root k blind (p.prefix k).exact (p.constant_base k) b rooted (exact k blind) (base k blind);
  exact = exact;
  rooted = rooted;
  none = λ is. empty-left p.root_names p.index_names (none is) (index_none is);
  index_none = index_none;
}

pub in-Signal : (of : Layout) (at n : ℕ) → ConstantIf false (P.signal of at n)
unfolding P.signal
in-Signal of at n = path-constant of at (root_path n of) false (λ k blind is. absurd (cc)) (λ m is. refl) (λ k blind is b. refl) (λ b. absurd (cc)) (λ b. refl)

pub in-Local : (of : Layout) (at n : ℕ) → ConstantIf false (P.local of at n)
unfolding P.local
in-Local of at n = path-constant of at (root_path (local_number n) of) false (λ k blind is. absurd (cc)) (λ m is. refl) (λ k blind is b. refl) (λ b. absurd (cc)) (λ b. refl)

narrowed-exact : (w : Window) (x : Bool) (step : Window → Window) → (narrowed step (record { window = w; exact = x })).exact ≡ x
narrowed-exact w true step = refl
narrowed-exact w false step = refl

no-root : (r : Option ℕ) (ns : List Named) → ns ≡ [] → names_of_root r ns ≡ []
no-root None ns is = refl
no-root (Some n) ns is = ap (names_of_root (Some n)) is

fixed-constant : (of : Layout) (at : ℕ) (step : Window → Window) (misfits : ℕ) (b : Bool) (from : Meaning) → ConstantIf b from → ConstantIf b (selected of at (fixed_step step misfits from))
fixed-constant of at step misfits b from h =
    path-constant of at (fixed_step step misfits from) b (λ k blind is. narrowed-exact (from.prefix k).window (from.prefix k).exact step ∙ h.exact k blind is) h.rooted
    (λ k blind is t. ap (λ r. known_base r (from.constant k)) is ∙ h.constant k blind ∙ t) (λ t. no-root from.root from.names (h.none t)) h.index_none

exact-by : (c b : Bool) (step : Window → Window) (p : Prefix) (w : Window) → c ≡ b → p.exact ≡ true → (cond c (narrowed step p) (record { window = w; exact = false })).exact ≡ b
exact-by true b step p w is exact = narrowed-exact p.window p.exact step ∙ exact ∙ is
exact-by false b step p w is exact = is

never-exact : (c : Bool) (step : Window → Window) (p : Prefix) (w : Window) → p.exact ≡ false → (cond c (narrowed step p) (record { window = w; exact = false })).exact ≡ false
never-exact true step p w exact = narrowed-exact p.window p.exact step ∙ exact
never-exact false step p w exact = refl

module _ (of : Layout) (at : ℕ) (step : Option ℤ → Window → Window) (misfits : ℕ) (from i : Meaning) where
  on-constant : (b : Bool) → ConstantIf true from → ConstantIf b i → ConstantIf b (selected of at (indexed_step step misfits from i))
  on-constant b h g =
      path-constant of at (indexed_step step misfits from i) b
      (λ k blind is. exact-by (i.constant k) b (step (index_of i k.around)) (from.prefix k) (from.prefix k).window (g.constant k blind) (h.exact k blind is))
      (λ n is. let never : true ≡ false = h.rooted n is in absurd (cc)) (λ k blind is t. ap (λ r. known_base r (from.constant k)) is ∙ h.constant k blind) (λ t. no-root from.root from.names (h.none refl))
      (λ t. empty-left from.index_names i.names (h.index_none refl) (g.none t))

  on-variable : ConstantIf false from → ConstantIf false (selected of at (indexed_step step misfits from i))
  on-variable h =
      path-constant of at (indexed_step step misfits from i) false
      (λ k blind is. never-exact (i.constant k) (step (index_of i k.around)) (from.prefix k) (from.prefix k).window (h.exact k blind is))
      (λ n is. refl) (λ k blind is t. absurd (cc)) (λ t. absurd (cc)) (λ t. absurd (cc))

  indexed-constant : (b : Bool) → AllConstantIf b (from ∷ i ∷ []) → ConstantIf b (selected of at (indexed_step step misfits from i))
  indexed-constant b (inl h) = on-constant b h.0 (only b i h.1)
  indexed-constant b (inr h) = subst (λ x. ConstantIf x (selected of at (indexed_step step misfits from i))) (sym h.1) (on-variable h.0)

pub in-Member : (of : Layout) (at : ℕ) (b : Bool) (m : Meaning) (k : ℕ) → AllConstantIf b (m ∷ []) → ConstantIf b (P.member of at m k)
unfolding P.member
in-Member of at b m k h = fixed-constant of at (member_of (slice_get m.of.members k)) _ b m (only b m h)

pub in-Part : (of : Layout) (at : ℕ) (b : Bool) (m : Meaning) (left right : ℤ) → AllConstantIf b (m ∷ []) → ConstantIf b (P.part_select of at m left right)
unfolding P.part_select
in-Part of at b m left right h = fixed-constant of at (between m.of left right) _ b m (only b m h)

pub in-Index : (of : Layout) (at : ℕ) (b : Bool) (m i : Meaning) → AllConstantIf b (m ∷ i ∷ []) → ConstantIf b (P.index of at m i)
unfolding P.index
in-Index of at b m i h = indexed-constant of at (element_of m.of) _ m i b h

pub in-Slide : (of : Layout) (at : ℕ) (b : Bool) (m i : Meaning) (n : ℕ) (up : Bool) → AllConstantIf b (m ∷ i ∷ []) → ConstantIf b (P.sliding of at m i n up)
unfolding P.sliding
in-Slide of at b m i n up h = indexed-constant of at (slide m.of up n) _ m i b h
