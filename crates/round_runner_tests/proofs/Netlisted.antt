-- What a netlist's gates and flip-flops say of its machine.
use Rattle.std.proofs.Common.{◌≡◌, ℕ, zero, suc, ◌+◌, ◌<◌, ◌==◌, ◌&&◌, ◌||◌, nat_lt, Bool, true, false, not, cond, List, [], ◌∷◌, length, map, slice_index_or, slice_get, Option, Some, None, refl, sym, ap, ◌∙◌, subst, inl, inr, arith}
use Rattle.std.specs.List.{list_any}
use Rattle.std.proofs.lemmas.List.{get_or-replicate, length-replicate}
use Rattle.std.proofs.Math.Bool.{or-false}
use Rattle.std.proofs.lemmas.Bool.{cases_Bool, eqb-true, eqb-false, eq-eqb, le-ltb, ne_eqb, or_left, or_right}
use Rattle.std.proofs.lemmas.Option.{slice_get-map, same_Some, get_or_from_slice_get}
use Rattle.std.specs.Option.{option_map}
use Rattle.b4_core.specs.declared.bit.Bit4.{Bit4}
use Rattle.row_machine.specs.Valuation.{Place, Valuation, Member, has}
use Rattle.row_machine.specs.Machine.{Process, EdgeProcess}
use Rattle.row_machine.specs.Settle.{same_bit, differs}
use Rattle.row_machine.specs.Rounds.{written_bits}
use Rattle.round_runner.proofs.Elements.{element}
use Rattle.b4_core.specs.Bits.{is_one}
use Rattle.round_runner.specs.Stores.{holding, widths, Holds, Changed}
use Rattle.round_runner.specs.Rows.{FitsRow}
use Rattle.round_runner.specs.Parts.{StartsAtZero, Wakes, Runs, ReadsAlone, WritesAlone, HasEdge, Updates, InputsAre}
use Rattle.round_runner_tests.specs.declared.netlist.Gate.{Gate}
use Rattle.round_runner_tests.specs.declared.netlist.Flop.{Flop}
use Rattle.round_runner_tests.specs.Netlists.{bit_of, is_on, negated, assigned, reads_of, writes_of, comb_of, edge_process_of, vectors, ones, machine_of}

-- a process of the machine is that of the gate
process_is : {A B : Type 0} (f : A → B) (xs : List A) (i : ℕ) (x : A) (p : B) → slice_get xs i ≡ Some x → slice_get (map f xs) i ≡ Some p → f x ≡ p
process_is f xs i x p h e = same_Some (f x) p (sym (ap (option_map f) h) ∙ sym (slice_get-map f xs i) ∙ e)

pub starts : (gates : List Gate) (i : ℕ) (g : Gate) (b : Bool) → slice_get gates i ≡ Some g → b ≡ not g.waits → StartsAtZero (map comb_of gates) i b
starts gates i g b h e = record { told = λ p at. e ∙ ap (λ (r : Process). r.from_zero) (process_is comb_of gates i g p h at) }

pub gate_runs : (gates : List Gate) (i : ℕ) (g : Gate) (held before after : List (List Bit4)) → slice_get gates i ≡ Some g → Changed ((comb_of g).assigns (holding held)) before after
    → Runs (map comb_of gates) i held before after
gate_runs gates i g held before after h e = record { done = λ p at. subst (λ (r : Process). Changed (r.assigns (holding held)) before after) (process_is comb_of gates i g p h at) e }

pub flop_runs : (flops : List Flop) (i : ℕ) (f : Flop) (last now : List (List Bit4)) (b : Bool) → slice_get flops i ≡ Some f → b ≡ (edge_process_of f).runs (holding last) (holding now)
    → HasEdge (map edge_process_of flops) i last now b
flop_runs flops i f last now b h e = record { told = λ p at. e ∙ ap (λ (r : EdgeProcess). r.runs (holding last) (holding now)) (process_is edge_process_of flops i f p h at) }

pub flop_updates : (flops : List Flop) (i : ℕ) (f : Flop) (held before after : List (List Bit4)) → slice_get flops i ≡ Some f → Changed ((edge_process_of f).updates (holding held)) before after
    → Updates (map edge_process_of flops) i held before after
flop_updates flops i f held before after h e =
    record { done = λ p at. subst (λ (r : EdgeProcess). Changed (r.updates (holding held)) before after) (process_is edge_process_of flops i f p h at) e }

pub bits_written : (gates : List Gate) → written_bits (map comb_of gates) ≡ length gates
bits_written [] = refl
bits_written (g ∷ gates) = let e : 1 + written_bits (map comb_of gates) ≡ suc (written_bits (map comb_of gates)) = omega arith in e ∙ ap suc (bits_written gates)

-- whether a bit isn't what it was
pub wakes : (initial : List Bit4) (inputs : List ℕ) (gates : List Gate) (flops : List Flop) (i : ℕ) (g : Gate) (now : List (List Bit4)) (b : Bool) → slice_get gates i ≡ Some g
    → b ≡ (g.waits && not (same_bit (holding now (bit_of g.from)) (holding (vectors initial) (bit_of g.from)))) → Wakes (machine_of initial inputs gates flops) i now b
wakes initial inputs gates flops i g now b h e = record {
  told = λ p at. e ∙ here g.waits ∙ ap (λ (r : Process). differs r.waits_for (holding now) (holding (vectors initial))) (process_is comb_of gates i g p h at);
}
  where
    apart : Bool
    apart = not (same_bit (holding now (bit_of g.from)) (holding (vectors initial) (bit_of g.from)))

    here : (w : Bool) → (w && apart) ≡ differs (cond w (bit_of g.from ∷ []) []) (holding now) (holding (vectors initial))
    here true = sym (or-false apart)
    here false = refl

absorbed : (b c : Bool) → (b || (c && b)) ≡ b
absorbed true c = refl
absorbed false true = refl
absorbed false false = refl

swapped : (b : ℕ) → (0 == b) ≡ (b == 0)
swapped zero = refl
swapped (suc b) = ne_eqb 0 (suc b) (λ e. absurd (omega (arith, e))) ∙ sym (ne_eqb (suc b) 0 (λ e. absurd (omega (arith, e))))

-- vectors of one bit have one bit
pub vectors_wide : (bits : List Bit4) → widths (vectors bits) ≡ ones (length bits)
vectors_wide [] = refl
vectors_wide (b ∷ bits) = ap (λ ws. 1 ∷ ws) (vectors_wide bits)

one_wide : (n k b : ℕ) → k < n → nat_lt b (slice_index_or (ones n) k 0) ≡ (b == 0)
one_wide n k b h = ap (nat_lt b) (get_or-replicate n k 1 0 h) ∙ below_one b
  where
    below_one : (b : ℕ) → nat_lt b 1 ≡ (b == 0)
    below_one zero = refl
    below_one (suc b) = le-ltb (suc b) 1 (omega arith) ∙ sym (ne_eqb (suc b) 0 (λ e. absurd (omega (arith, e))))

has_input : (inputs : List ℕ) (size : ℕ) → ((n : ℕ) → Member inputs n → n < size) → (q : Place)
    → has (map bit_of inputs) q ≡ (list_any (λ n. n == q.signal) inputs && nat_lt q.bit (slice_index_or (ones size) q.signal 0))
unfolding has
has_input [] size there q = refl
has_input (n ∷ inputs) size there q =
    let rest = has_input inputs size (λ m h. there m (inr h)) q in
    let bit_is : (0 == q.bit) ≡ (q.bit == 0) = swapped q.bit in
    elim (cases_Bool (n == q.signal)) [
      | inl same ↦
          let lt : q.signal < size = omega (arith, there n (inl refl), eqb-true n q.signal same) in
          let wide = one_wide size q.signal q.bit lt in
          ap (λ (s : Bool). (s && (0 == q.bit)) || has (map bit_of inputs) q) same
          ∙ ap (λ r. (0 == q.bit) || r) rest
          ∙ ap (λ w. (0 == q.bit) || (list_any (λ n. n == q.signal) inputs && w)) wide
          ∙ ap (λ b. b || (list_any (λ n. n == q.signal) inputs && (q.bit == 0))) bit_is
          ∙ absorbed (q.bit == 0) (list_any (λ n. n == q.signal) inputs)
          ∙ sym wide
          ∙ ap (λ (s : Bool). (s || list_any (λ n. n == q.signal) inputs) && nat_lt q.bit (slice_index_or (ones size) q.signal 0)) (sym same)
      | inr other ↦
          ap (λ (s : Bool). (s && (0 == q.bit)) || has (map bit_of inputs) q) other
          ∙ rest
          ∙ ap (λ (s : Bool). (s || list_any (λ n. n == q.signal) inputs) && nat_lt q.bit (slice_index_or (ones size) q.signal 0)) (sym other)
    ]

-- the place of an element
place_of : {A : Type 0} (xs : List A) (x : A) → Member xs x → (i : ℕ) × (slice_get xs i ≡ Some x)
place_of [] x m = elim m [ ]
place_of (y ∷ xs) x (inl e) = (0, ap Some (sym e))
place_of (y ∷ xs) x (inr m) = let r = place_of xs x m in (suc r.0, r.1)

pub inputs_are : (initial : List Bit4) (inputs : List ℕ) (gates : List Gate) (flops : List Flop) → ((i n : ℕ) → slice_get inputs i ≡ Some n → n < length initial)
    → InputsAre (machine_of initial inputs gates flops) (ones (length initial)) inputs
inputs_are initial inputs gates flops there = record {
  whole = has_input inputs (length initial) (λ n h. let r = place_of inputs n h in there r.0 n r.1);
  there = λ n h. let r = place_of inputs n h in subst (λ k. n < k) (sym (length-replicate (length initial) 1)) (there r.0 n r.1);
}

pub holds_first : (bits : List Bit4) (store : List (List Bit4)) → store ≡ vectors bits → Holds (ones (length bits)) (holding (vectors bits)) store
holds_first bits store e = record { values = ap holding e; shape = ap widths e ∙ vectors_wide bits }

-- a row of vectors of one bit
pub row_fits : (size : ℕ) (ns : List ℕ) (row : List (List Bit4)) → length row ≡ length ns → ((i n : ℕ) → slice_get ns i ≡ Some n → n < size)
    → ((i : ℕ) (v : List Bit4) → slice_get row i ≡ Some v → length v ≡ 1) → FitsRow (ones size) ns row
row_fits size [] [] long there bits = tt
row_fits size [] (v ∷ row) long there bits = absurd (omega arith)
row_fits size (n ∷ ns) [] long there bits = absurd (omega arith)
row_fits size (n ∷ ns) (v ∷ row) long there bits =
    (bits 0 v refl ∙ sym (get_or-replicate size n 1 0 (there 0 n refl)), row_fits size ns row (omega arith) (λ i m h. there (suc i) m h) (λ i u h. bits (suc i) u h))

-- the lists that stand beside the gates
pub listed : {A B : Type 0} (f : A → List B) (xs : List A) (lists : List (List B)) (i : ℕ) (x : A) → lists ≡ map f xs → slice_get xs i ≡ Some x → slice_get lists i ≡ Some (f x)
listed f xs lists i x e h = ap (λ ls. slice_get ls i) e ∙ slice_get-map f xs i ∙ ap (option_map f) h

pub gate_reads : (gates : List Gate) (reads : List (List ℕ)) (i : ℕ) (ns : List ℕ) → i < length gates → reads ≡ map reads_of gates → ns ≡ slice_index_or reads i ns → ReadsAlone (map comb_of gates) i ns
gate_reads gates reads i ns room e is_ns =
    let g = element gates i room in
    let same : ns ≡ reads_of g.0 = is_ns ∙ get_or_from_slice_get reads i (reads_of g.0) ns (listed reads_of gates reads i g.0 e g.1) in record {
      alone = λ p at v u alike q.
          subst (λ (r : Process). r.assigns v q ≡ r.assigns u q) (process_is comb_of gates i g.0 p g.1 at)
          (alike_gate g.0 v u (λ r h. alike r (ap (λ ms. list_any (λ n. n == r.signal) ms) same ∙ h)) q);
    }
  where
    alike_on : (g : Gate) (o : Option ℕ) (v u : Valuation) → ((r : Place) → list_any (λ n. n == r.signal) (g.from ∷ elim o [ None ↦ [] | Some n ↦ n ∷ [] ]) ≡ true → v r ≡ u r) → is_on o v ≡ is_on o u
    alike_on g None v u alike = refl
    alike_on g (Some n) v u alike =
        ap is_one (alike (bit_of n) (or_right (g.from == n) ((n == n) || false) (or_left (n == n) false (eq-eqb n n refl))))

    alike_gate : (g : Gate) (v u : Valuation) → ((r : Place) → list_any (λ n. n == r.signal) (reads_of g) ≡ true → v r ≡ u r) → (q : Place) → (comb_of g).assigns v q ≡ (comb_of g).assigns u q
    alike_gate g v u alike q =
        ap (λ b. assigned g.to b (negated g.negates (v (bit_of g.from))) q) (alike_on g g.enable v u alike)
        ∙ ap (λ b. assigned g.to (is_on g.enable u) (negated g.negates b) q) (alike (bit_of g.from) (or_left (g.from == g.from) (list_any (λ n. n == g.from) (elim g.enable [ None ↦ [] | Some n ↦ n ∷ [] ])) (eq-eqb g.from g.from refl)))

pub gate_writes : (gates : List Gate) (writes : List (List ℕ)) (i : ℕ) (ns : List ℕ) → i < length gates → writes ≡ map writes_of gates → ns ≡ slice_index_or writes i ns → WritesAlone (map comb_of gates) i ns
gate_writes gates writes i ns room e is_ns =
    let g = element gates i room in
    let same : ns ≡ writes_of g.0 = is_ns ∙ get_or_from_slice_get writes i (writes_of g.0) ns (listed writes_of gates writes i g.0 e g.1) in record {
      none = λ p at v q h.
          subst (λ (r : Process). r.assigns v q ≡ None) (process_is comb_of gates i g.0 p g.1 at)
          (silent g.0 v q (sym (or-false (g.0.to == q.signal)) ∙ ap (λ ms. list_any (λ n. n == q.signal) ms) (sym same) ∙ h));
    }
  where
    silent : (g : Gate) (v : Valuation) (q : Place) → (g.to == q.signal) ≡ false → (comb_of g).assigns v q ≡ None
    silent g v q h =
        ap (λ b. cond (b && (q.bit == 0) && is_on g.enable v) (Some (negated g.negates (v (bit_of g.from)))) None)
        (let other : (q.signal == g.to) ≡ false = ne_eqb q.signal g.to (λ z. eqb-false g.to q.signal h (sym z)) in other)
