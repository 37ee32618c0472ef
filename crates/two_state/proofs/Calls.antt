-- What a function with one assignment gives.
use Rattle.std.proofs.Common.{◌≡◌, ℕ, suc, ◌+◌, ◌-◌, ◌<◌, ◌==◌, true, false, ◌&&◌, cond, length, List, [], ◌∷◌, ◌++◌, Some, None, refl, arith, sym, ◌∙◌, ap}
use Rattle.std.specs.Prelude.{slice_index_or, nat_le, nat_lt}
use Rattle.std.specs.Str.{bytes_eq}
use Rattle.std.proofs.lemmas.Bool.Decides.{nat_tests}
use Rattle.b4_core.specs.declared.bit.Bit4.{Bit4}
use Rattle.b4_core.specs.declared.bit.Bit4.TheVariants.{X}
use Rattle.row_machine.specs.Valuation.{Place, Valuation, Changes, put, changed}
use Rattle.row_machine.specs.Places.{vector_at, bits_from}
use Rattle.row_machine.specs.Steps.{then_changes, later_or, unchanged}
use Rattle.picks.specs.Windows.{whole, written}
use Rattle.v_tree.specs.Names.{Name}
use Rattle.v_tree.specs.declared.items.VFunction.{VFunction}
use Rattle.v_tree.specs.declared.items.VLocal.{VLocal}
use Rattle.v_meaning.specs.Functions.{called, bound, inputs_of, locals_of, result_of, scope_in}
use Rattle.v_meaning.specs.Runs.{State, begun, cleared, assign_now, current}
use Rattle.v_meaning.specs.Scopes.{Scope, Named, named, bits_of_range, is_signal, local_number}
use Rattle.v_meaning.specs.Statements.{Doing, declared, doing, assignment, name_target}
use Rattle.v_meaning.specs.Values.{Meaning, given, path_of, width_of}
use Rattle.two_state.specs.Kinds.{Gives, input_of, vector, other}

same-bytes : (xs : List ℕ) → bytes_eq xs xs ≡ true
same-bytes [] = refl
same-bytes (x ∷ xs) = (let e : (x == x) ≡ true = grind (arith, nat_tests) in ap (λ b. b && bytes_eq xs xs) e ∙ same-bytes xs)

-- what is written to the whole of something is there
written-bit : (n w b : ℕ) (bits : List Bit4) → b < w → written n (whole w) bits (record { signal = n; bit = b }) ≡ Some (slice_index_or bits b X)
written-bit n w b bits h =
    let e : ((n == n) && (nat_le 0 b && nat_lt b w)) ≡ true = grind (arith, nat_tests) in
    let same : b + 0 ≡ b = omega arith in
    ap (λ c. cond c (Some (slice_index_or bits (b + 0) X)) None) e ∙ ap (λ k. Some (slice_index_or bits k X)) same

there-from : (u : Valuation) (n k : ℕ) (bits all : List Bit4) → ((j : ℕ) → j < length bits → u (record { signal = n; bit = k + j }) ≡ slice_index_or bits j X) → bits_from u n k (length bits) ≡ bits
there-from u n k [] all h = refl
there-from u n k (b ∷ bits) all h =
    let first : u (record { signal = n; bit = k }) ≡ b = (let e : k + 0 ≡ k = omega arith in sym (ap (λ i. u (record { signal = n; bit = i })) e) ∙ h 0 (omega arith)) in
    let rest = there-from u n (suc k) bits all (λ j less. (let e : suc k + j ≡ k + suc j = omega arith in ap (λ i. u (record { signal = n; bit = i })) e ∙ h (suc j) (omega arith))) in
    λ i. first i ∷ rest i

pub there : (u : Valuation) (n w : ℕ) (bits : List Bit4) → length bits ≡ w → ((j : ℕ) → j < w → u (record { signal = n; bit = j }) ≡ slice_index_or bits j X) → vector_at u n w ≡ bits
there u n w bits long h =
    sym (ap (λ k. bits_from u n 0 k) long)
    ∙ there-from u n 0 bits bits (λ j less. (let e : 0 + j ≡ j = omega arith in ap (λ i. u (record { signal = n; bit = i })) e) ∙ h j (omega arith))

-- Its result, once its inputs are bound.
module _ (f : VFunction) (name : Name) (n : ℕ) (ins : List VLocal) (m : Meaning) (g : Gives f name n ins m) (some : 0 < n) (sc : Scope) (v : Valuation) (args : List (List Bit4)) where
  abbrev pub inner : Scope
  inner = scope_in f sc

  abbrev pub before : State
  before = assign_now (bound (inputs_of f) args) (assign_now (cleared (locals_of f)) begun)

  abbrev pub held : Valuation
  held = current v before

  wide : bits_of_range f.range ≡ n
  wide = (let e : n - 1 + 1 ≡ n = omega arith in ap bits_of_range g.1 ∙ e)

  result-name : named inner.names name ≡ result_of f
  result-name = ap (λ b. cond b (result_of f) (named (inputs_of f ++ declared (suc (length f.inputs)) f.locals ++ sc.names) name)) (ap (λ k. bytes_eq k name) g.0 ∙ same-bytes name)

  after : (m_assignment : Doing) → m_assignment ≡ assignment false (name_target name []) m → (q : Place)
      → (m_assignment.run inner v before).written q ≡ then_changes before.written (written (local_number 0) (whole n) (given m n inner held)) q
  unfolding assignment name_target
  after d is q =
      ap (λ (k : Doing). (k.run inner v before).written q) is
      ∙ ap (λ (r : Named). then_changes before.written (written r.number (path_of r [] inner held).window (given m (width_of r []) inner held)) q) result-name
      ∙ ap (λ k. then_changes before.written (written (local_number 0) (whole k) (given m k inner held)) q) wide

  pub called-gives : length (given m n inner held) ≡ n → called f (doing f.body) sc v args ≡ given m n inner held
  called-gives long =
      ap (vector_at (put ((doing f.body).run inner v before).written v) (local_number 0)) wide
      ∙ there (put ((doing f.body).run inner v before).written v) (local_number 0) n (given m n inner held) long
      (λ j h. ap (λ o. changed o (v (record { signal = local_number 0; bit = j })))
      (after (doing f.body) g.4 (record { signal = local_number 0; bit = j })
      ∙ ap (λ o. later_or o (before.written (record { signal = local_number 0; bit = j }))) (written-bit (local_number 0) n j (given m n inner held) h)))

-- An input that is bound to a vector of its width.
pub record IsBound (name : Name) (w : ℕ) (x : List Bit4) (sc : Scope) (u : Valuation) : Type 0 where
  pub number : ℕ
  pub local : is_signal number ≡ false
  pub own : Name
  pub is : named sc.names name ≡ record { name = own; number = number; width = w; words = None }
  pub holds : vector_at u number w ≡ x
  pub long : length x ≡ w

module _ (f : VFunction) (name : Name) (n : ℕ) (m : Meaning) (some : 0 < n) (sc : Scope) (v : Valuation) where
  -- one input
  module _ (w : ℕ) (x : List Bit4) (has : 0 < w) (apart : bytes_eq name vector ≡ false) (g : Gives f name n (input_of vector w ∷ []) m) (long : length x ≡ w) where
    abbrev l : VLocal
    l = input_of vector w

    abbrev u : Valuation
    u = held f name n (input_of vector w ∷ []) m g some sc v (x ∷ [])

    l-wide : w - 1 + 1 ≡ w
    l-wide = omega arith

    changes-are : bound (inputs_of f) (x ∷ []) ≡ then_changes (written (local_number 1) (whole w) x) unchanged
    changes-are = ap (λ (ls : List VLocal). bound (declared 1 ls) (x ∷ [])) g.2 ∙ ap (λ k. then_changes (written (local_number 1) (whole k) x) unchanged) l-wide

    pub one-bound : IsBound vector w x (scope_in f sc) u
    one-bound = record {
      number = local_number 1;
      local = refl;
      own = l.name;
      is =
          ap (λ (k : Name). cond (bytes_eq k vector) (result_of f) (named (inputs_of f ++ declared (suc (length f.inputs)) f.locals ++ sc.names) vector)) g.0
          ∙ ap (λ b. cond b (result_of f) (named (inputs_of f ++ declared (suc (length f.inputs)) f.locals ++ sc.names) vector)) apart
          ∙ ap (λ (ls : List VLocal). named (declared 1 ls ++ declared (suc (length ls)) f.locals ++ sc.names) vector) g.2
          ∙ ap (λ k. record { name = l.name; number = local_number 1; width = k; words = None }) l-wide;
      holds = there u (local_number 1) w x long (λ j h.
          ap (λ (c : Changes). changed (later_or (c (record { signal = local_number 1; bit = j })) (cleared-before (record { signal = local_number 1; bit = j }))) (v (record { signal = local_number 1; bit = j }))) changes-are
          ∙ ap (λ o. changed (later_or o (cleared-before (record { signal = local_number 1; bit = j }))) (v (record { signal = local_number 1; bit = j }))) (written-bit (local_number 1) w j x h));
      long = long;
    }
      where
        cleared-before : Changes
        cleared-before = (assign_now (cleared (locals_of f)) begun).written

  -- two inputs
  module _ (w d : ℕ) (x y : List Bit4) (has : 0 < w) (has_too : 0 < d) (apart : bytes_eq name vector ≡ false) (apart_too : bytes_eq name other ≡ false)
      (g : Gives f name n (input_of vector w ∷ input_of other d ∷ []) m) (long : length x ≡ w) (long_too : length y ≡ d) where
    abbrev l2 : VLocal
    l2 = input_of vector w

    abbrev k : VLocal
    k = input_of other d

    abbrev u2 : Valuation
    u2 = held f name n (input_of vector w ∷ input_of other d ∷ []) m g some sc v (x ∷ y ∷ [])

    first-wide : w - 1 + 1 ≡ w
    first-wide = omega arith

    second-wide : d - 1 + 1 ≡ d
    second-wide = omega arith

    both-are : bound (inputs_of f) (x ∷ y ∷ []) ≡ then_changes (written (local_number 1) (whole w) x) (then_changes (written (local_number 2) (whole d) y) unchanged)
    both-are =
        ap (λ (ls : List VLocal). bound (declared 1 ls) (x ∷ y ∷ [])) g.2
        ∙ (λ i. then_changes (written (local_number 1) (whole (first-wide i)) x) (then_changes (written (local_number 2) (whole (second-wide i)) y) unchanged))

    abbrev cleared-first : Changes
    cleared-first = (assign_now (cleared (locals_of f)) begun).written

    abbrev rest-of : List VLocal → List Named
    rest-of ls = declared 1 ls ++ declared (suc (length ls)) f.locals ++ sc.names

    pub first-bound : IsBound vector w x (scope_in f sc) u2
    first-bound = record {
      number = local_number 1;
      local = refl;
      own = l2.name;
      is =
          ap (λ (z : Name). cond (bytes_eq z vector) (result_of f) (named (rest-of f.inputs) vector)) g.0
          ∙ ap (λ b. cond b (result_of f) (named (rest-of f.inputs) vector)) apart
          ∙ ap (λ (ls : List VLocal). named (rest-of ls) vector) g.2
          ∙ ap (λ z. record { name = l2.name; number = local_number 1; width = z; words = None }) first-wide;
      holds = there u2 (local_number 1) w x long (λ j h.
          ap (λ (c : Changes). changed (later_or (c (record { signal = local_number 1; bit = j })) (cleared-first (record { signal = local_number 1; bit = j }))) (v (record { signal = local_number 1; bit = j }))) both-are
          ∙ ap (λ o. changed (later_or o (cleared-first (record { signal = local_number 1; bit = j }))) (v (record { signal = local_number 1; bit = j }))) (written-bit (local_number 1) w j x h));
      long = long;
    }

    pub second-bound : IsBound other d y (scope_in f sc) u2
    second-bound = record {
      number = local_number 2;
      local = refl;
      own = k.name;
      is =
          ap (λ (z : Name). cond (bytes_eq z other) (result_of f) (named (rest-of f.inputs) other)) g.0
          ∙ ap (λ b. cond b (result_of f) (named (rest-of f.inputs) other)) apart_too
          ∙ ap (λ (ls : List VLocal). named (rest-of ls) other) g.2
          ∙ ap (λ z. record { name = k.name; number = local_number 2; width = z; words = None }) second-wide;
      holds = there u2 (local_number 2) d y long_too (λ j h.
          ap (λ (c : Changes). changed (later_or (c (record { signal = local_number 2; bit = j })) (cleared-first (record { signal = local_number 2; bit = j }))) (v (record { signal = local_number 2; bit = j }))) both-are
          ∙ ap (λ o. changed (later_or (later_or o None) (cleared-first (record { signal = local_number 2; bit = j }))) (v (record { signal = local_number 2; bit = j }))) (written-bit (local_number 2) d j y h));
      long = long_too;
    }
