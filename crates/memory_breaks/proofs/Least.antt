-- The breaks of the rule on wide signals, by marks.
use Rattle.std.proofs.Common.{◌≡◌, inl, inr, ℕ, zero, suc, ◌+◌, ◌^◌, ◌<◌, ◌≤◌, ◌/◌, ◌==◌, nat_le, nat_lt, Bool, true, false, ◌&&◌, ◌||◌, not, cond, List, [], ◌∷◌, ◌++◌, length, flat_map, take, get_or, replicate, append_assoc, Option, Some, None, slice_index_or, refl, ap, sym, ◌∙◌, subst, arith}
use Rattle.std.specs.List.{list_any, list_all}
use Rattle.std.proofs.lemmas.Bool.{false≢true}
use Rattle.std.proofs.lemmas.Bool.Decides.{nat_tests}
use Rattle.std.proofs.lemmas.List.{append-nil, take_all}
use Rattle.std.proofs.lemmas.Option.{slice_get_read}
use Rattle.sv_types.specs.declared.design.Design.{Design}
use Rattle.sv_types.specs.declared.design.Process.{Process}
use Rattle.sv_types.specs.declared.design.Signal.{Signal}
use Rattle.sv_types.specs.Layouts.{layout, width_of, default_bits}
use Rattle.sv_types.specs.Surroundings.{is_signal}
use Rattle.flow_sets.specs.declared.found.Found.{Found}
use Rattle.flow_sets.specs.declared.uses.Write.{Write}
use Rattle.comb_order.specs.Bits.{AreNarrow}
use Rattle.flow_breaks.specs.Pieces.{AreFound}
use Rattle.design_breaks.specs.declared.Break.{Break}
use Rattle.design_breaks.specs.Memories as M
use Rattle.design_breaks.specs.Memories.{is_edged, is_unpacked_array, may_write, mentions_whole}
use Rattle.design_breaks.specs.Breaks as B
use Rattle.design_breaks.specs.Breaks.{is_less}
use Rattle.least_breaks.specs.Least.{IsLeast}
use Rattle.memory_breaks.specs.declared.memories.Known.{Known}
use Rattle.memory_breaks.specs.declared.processes.Written.{Written}
use Rattle.memory_breaks.specs.Marks.{Part, marked, writes_marked}
use Rattle.memory_breaks.specs.Memories.{is_unknown, is_kept_by_edges, is_memory}
use Rattle.memory_breaks.specs.Processes as P
use Rattle.memory_breaks.specs.Wide as W
use Rattle.memory_breaks.specs.Wide.{IsKnown, AreMarked, wide_breaks}
use Rattle.memory_breaks.proofs.Marking.{one-marked}
use Rattle.memory_breaks.proofs.Writing as G
use Rattle.memory_breaks.proofs.Writing.{all_by, edged_of, other_of}

-- four-state bits are those that are x by default
pub default-unknown : (marks : List Bool) → list_all is_unknown (default_bits marks) ≡ list_all not marks
default-unknown [] = refl
default-unknown (true ∷ marks) = refl
default-unknown (false ∷ marks) = default-unknown marks

-- the marks of all signals
length-none : (n : ℕ) → length (replicate n false) ≡ n
length-none zero = refl
length-none (suc n) = ap suc (length-none n)

is-a-signal : (q n : ℕ) → q < n → n ≤ 2 ^ 32 → is_signal q ≡ true
is-a-signal q n low few = grind (arith, nat_tests, low, few)

module _ (d : Design) (found : List (Option Found)) (few : length d.signals ≤ 2 ^ 32) (are : AreFound d found) where
  abbrev n : ℕ
  n = length d.signals

  -- parts that mark something at each number keep the length, whatever it is
  known-at : (q : ℕ) → q < n
      → IsKnown d q (W.known_of q (W.whole_marks d) (W.unsettled_marks d found) (record { edged = all_by edged_of d.processes found (replicate n false); other = all_by other_of d.processes found (replicate n false) }))
  known-at q low =
      let signal = is-a-signal q n low few in
      let unsettled = list_any (λ (p : Process). B.names_it d q p && not (B.unrolls d p.body)) d.processes in
      record {
        settled =
            G.settled-is d q signal d.processes
            ∙ ap not (G.from-none d q signal n (all_by (P.unsettled_by d.functions) d.processes found) unsettled low (G.of-any d q signal d.processes found are.count are.each)
            ∙ sym (ap (λ (u : List Bool). slice_index_or u q false) (G.all-alike d.functions d.processes found (replicate n false))));
        whole = G.from-none d q signal n (P.all_whole d.processes) (list_any (mentions_whole d q) d.processes) low (G.whole-all d q signal d.processes);
        edged = λ h. G.from-none d q signal n (all_by edged_of d.processes found) (list_any (λ (p : Process). is_edged p.kind && may_write d q p) d.processes) low
            (G.of-settled d q signal edged_of (λ p. is_edged p.kind && may_write d q p) (G.edged-one d q signal) d.processes found are.count are.each h);
        other = λ h. G.from-none d q signal n (all_by other_of d.processes found) (list_any (λ (p : Process). not (is_edged p.kind) && may_write d q p) d.processes) low
            (G.of-settled d q signal other_of (λ p. not (is_edged p.kind) && may_write d q p) (G.other-one d q signal) d.processes found are.count are.each h);
      }

  writes-long : (ws : List Write) (u : List Bool) → length (writes_marked ws u) ≡ length u
  writes-long [] u = refl
  writes-long (w ∷ ws) u = writes-long ws (cond (nat_lt w.of.span.low w.of.span.high) (marked (w.of.span.low / 2 ^ 32) u) u) ∙ by (nat_lt w.of.span.low w.of.span.high)
    where
      by : (b : Bool) → length (cond b (marked (w.of.span.low / 2 ^ 32) u) u) ≡ length u
      by true = (one-marked 0 (w.of.span.low / 2 ^ 32)).long u
      by false = refl

  edged-long : (p : Process) (f : Option Found) (u : List Bool) → length (edged_of p f u) ≡ length u
  edged-long p None u = refl
  edged-long p (Some f) u = by (is_edged p.kind)
    where
      by : (b : Bool) → length (cond b (writes_marked f.later u) u) ≡ length u
      by true = writes-long f.later u
      by false = refl

  other-long : (p : Process) (f : Option Found) (u : List Bool) → length (other_of p f u) ≡ length u
  other-long p None u = refl
  other-long p (Some f) u = by (is_edged p.kind)
    where
      by : (b : Bool) → length (cond b u (writes_marked f.writes u)) ≡ length u
      by true = refl
      by false = writes-long f.writes u

  all-long : (by : Process → Option Found → Part) → ((p : Process) (f : Option Found) (u : List Bool) → length (by p f u) ≡ length u) → (ps : List Process) (fs : List (Option Found)) (u : List Bool)
      → length (all_by by ps fs u) ≡ length u
  all-long by one [] fs u = refl
  all-long by one (p ∷ ps) [] u = refl
  all-long by one (p ∷ ps) (f ∷ fs) u = all-long by one ps fs (by p f u) ∙ one p f u

  pub are-marked : (whole unsettled : List Bool) (w : Written) → whole ≡ W.whole_marks d → unsettled ≡ W.unsettled_marks d found → w ≡ P.all_written d.processes found (P.none_written n) → AreMarked d whole unsettled w
  are-marked whole unsettled w a b c =
      let apart = c ∙ G.all-apart d.processes found (P.none_written n) in
      subst (λ x. AreMarked d x unsettled w) (sym a) (subst (λ x. AreMarked d (W.whole_marks d) x w) (sym b) (subst (AreMarked d (W.whole_marks d) (W.unsettled_marks d found)) (sym apart) (record {
        all_whole = (G.whole-all d 0 refl d.processes).long (replicate n false) ∙ length-none n;
        all_unsettled =
            ap (λ (u : List Bool). length u) (G.all-alike d.functions d.processes found (replicate n false))
            ∙ (G.of-any d 0 refl d.processes found are.count are.each).long (replicate n false)
            ∙ length-none n;
        all_edged = all-long edged_of edged-long d.processes found (replicate n false) ∙ length-none n;
        all_other = all-long other_of other-long d.processes found (replicate n false) ∙ length-none n;
        each = known-at;
      })))

-- the break of one signal
module _ (d : Design) where
  others-are : (q : ℕ) (ps : List Process) → list_all (λ (p : Process). is_edged p.kind || not (may_write d q p)) ps ≡ not (list_any (λ (p : Process). not (is_edged p.kind) && may_write d q p) ps)
  others-are q [] = refl
  others-are q (p ∷ ps) = by (is_edged p.kind) (may_write d q p) _ _ (others-are q ps)
    where
      by : (a b c e : Bool) → c ≡ not e → ((a || not b) && c) ≡ not ((not a && b) || e)
      by true b c e is = is
      by false true c e is = refl
      by false false c e is = is

  wholes-are : (q : ℕ) (ps : List Process) → list_all (λ (p : Process). not (mentions_whole d q p)) ps ≡ not (list_any (mentions_whole d q) ps)
  wholes-are q [] = refl
  wholes-are q (p ∷ ps) = by (mentions_whole d q p) _ _ (wholes-are q ps)
    where
      by : (a c e : Bool) → c ≡ not e → (not a && c) ≡ not (a || e)
      by true c e is = refl
      by false c e is = is

  -- a memory, where what is known is known
  memory-is : (q : ℕ) (s : Signal) (k : Known) → IsKnown d q k → is_unpacked_array s.of ≡ true → B.is_settled d q ≡ true → M.is_memory d q s ≡ is_memory d.instances s k
  memory-is q s k known array settled =
      (λ i. array i && (list_all not (layout s.of).two_state && (not s.declared && (not (M.is_port s.kind) && (not (M.in_interface d s.instance)
      && (known.edged settled i && ((others-are q d.processes ∙ ap not (known.other settled)) i && (wholes-are q d.processes ∙ ap not known.whole) i)))))))
      ∙ turn (list_all not (layout s.of).two_state) (is_kept_by_edges d.instances s k)
    where
      turn : (a b : Bool) → (a && b) ≡ cond b a false
      turn true true = refl
      turn true false = refl
      turn false true = refl
      turn false false = refl

  abbrev pub break_of : Signal → Break
  break_of s = record { instance = s.instance; at = s.spot.at; rule = 701 }

  not-below-itself : (m : ℕ) → nat_lt m m ≡ false
  not-below-itself m = grind (arith, nat_tests)

  nothing-less : (x y : Bool) → (false || (x && (false || (y && false)))) ≡ false
  nothing-less true true = refl
  nothing-less true false = refl
  nothing-less false y = refl

  irreflexive : (b : Break) → is_less b b ≡ false
  irreflexive b =
      (λ j. not-below-itself b.instance j || ((b.instance == b.instance) && (not-below-itself b.at j || ((b.at == b.at) && not-below-itself b.rule j))))
      ∙ nothing-less (b.instance == b.instance) (b.at == b.at)

  one-least : (b : Break) (c : Bool) → IsLeast (B.only_if c (b ∷ [])) (cond c (Some b) None)
  one-least b true = record { there = inl refl; least = λ x m. elim m [ inl is ↦ ap (λ y. is_less y b) is ∙ irreflexive b | inr past ↦ absurd past ] }
  one-least b false = λ x m. m

  abbrev breaks_it : ℕ → Signal → Bool → Bool
  breaks_it q s settled = is_unpacked_array s.of && (nat_lt 65536 (width_of s.of) && (settled && not (M.is_memory d q s)))

  from-test : (q : ℕ) (s : Signal) (r : Option Break) → r ≡ cond (breaks_it q s (B.is_settled d q)) (Some (break_of s)) None → IsLeast (B.too_wide d (q, s)) r
  from-test q s r is = subst (IsLeast (B.too_wide d (q, s))) (sym is) (one-least (break_of s) (breaks_it q s (B.is_settled d q)))

  wider : (w : ℕ) → nat_le w 65536 ≡ not (nat_lt 65536 w)
  wider w = grind (arith, nat_tests)

  abbrev by_tests : Bool → Bool → Bool → Bool → Break → Option Break
  by_tests array narrow unsettled memory b = cond (not array || (narrow || unsettled)) None (cond memory None (Some b))

  when-settled : (u v m : Bool) (b : Break) → by_tests u (not v) false m b ≡ cond (u && (v && (true && not m))) (Some b) None
  when-settled true true true b = refl
  when-settled true true false b = refl
  when-settled true false m b = refl
  when-settled false v m b = refl

  when-not : (u v m n : Bool) (b : Break) → by_tests u (not v) true m b ≡ cond (u && (v && (false && not n))) (Some b) None
  when-not true true m n b = refl
  when-not true false m n b = refl
  when-not false v m n b = refl

  negated : (x y : Bool) → x ≡ not y → y ≡ not x
  negated true true is = absurd (false≢true (sym is))
  negated true false is = refl
  negated false true is = refl
  negated false false is = absurd (false≢true is)

  pub signal-least : (q : ℕ) (s : Signal) (k : Known) → IsKnown d q k → IsLeast (B.too_wide d (q, s)) (W.wide_break d.instances s k)
  signal-least q s k known = by (B.is_settled d q) refl (is_unpacked_array s.of) refl
    where
      by : (x : Bool) → B.is_settled d q ≡ x → (u : Bool) → is_unpacked_array s.of ≡ u → IsLeast (B.too_wide d (q, s)) (W.wide_break d.instances s k)
      by false settled u array = from-test q s (W.wide_break d.instances s k) (
          (λ i. by_tests (is_unpacked_array s.of) (wider (width_of s.of) i) (negated false k.unsettled (sym settled ∙ known.settled) i) (is_memory d.instances s k) (break_of s))
          ∙ when-not (is_unpacked_array s.of) (nat_lt 65536 (width_of s.of)) (is_memory d.instances s k) (M.is_memory d q s) (break_of s)
          ∙ sym (ap (λ b. cond (breaks_it q s b) (Some (break_of s)) None) settled))
      by true settled true array = from-test q s (W.wide_break d.instances s k) (
          (λ i. by_tests (is_unpacked_array s.of) (wider (width_of s.of) i) (negated true k.unsettled (sym settled ∙ known.settled) i) (sym (memory-is q s k known array settled) i) (break_of s))
          ∙ when-settled (is_unpacked_array s.of) (nat_lt 65536 (width_of s.of)) (M.is_memory d q s) (break_of s)
          ∙ sym (ap (λ b. cond (breaks_it q s b) (Some (break_of s)) None) settled))
      by true settled false array = from-test q s (W.wide_break d.instances s k) (
          ap (λ b. by_tests b (nat_le (width_of s.of) 65536) k.unsettled (is_memory d.instances s k) (break_of s)) array
          ∙ sym (ap (λ b. cond (b && (nat_lt 65536 (width_of s.of) && (B.is_settled d q && not (M.is_memory d q s)))) (Some (break_of s)) None) array))

  -- and of all of them
  flat-take : {A : Type 0} (f : A → List Break) (xs : List A) (k : ℕ) (x : A) → k < length xs → x ≡ get_or xs k x → flat_map f (take (k + 1) xs) ≡ flat_map f (take k xs) ++ f x
  flat-take f [] k x low is = absurd (omega arith)
  flat-take f (y ∷ xs) zero x low is = append-nil (f y) ∙ ap f (sym is)
  flat-take f (y ∷ xs) (suc k) x low is =
      let at : suc k + 1 ≡ suc (k + 1) = omega arith in
      ap (λ m. flat_map f (take m (y ∷ xs))) at
      ∙ ap (λ zs. f y ++ zs) (flat-take f xs k x (omega (arith, low)) is)
      ∙ sym (append_assoc (f y) (flat_map f (take k xs)) (f x))

  numbered-length : (m : ℕ) (xs : List Signal) → length (B.numbered d m xs) ≡ length xs
  numbered-length m [] = refl
  numbered-length m (x ∷ xs) = ap suc (numbered-length (suc m) xs)

  numbered-get : (m : ℕ) (xs : List Signal) (k : ℕ) (x : Signal) → k < length xs → x ≡ get_or xs k x → (y : ℕ × Signal) → get_or (B.numbered d m xs) k y ≡ (m + k, x)
  numbered-get m [] k x low is y = absurd (omega arith)
  numbered-get m (z ∷ xs) zero x low is y = let at : m ≡ m + 0 = omega arith in λ i. (at i, sym is i)
  numbered-get m (z ∷ xs) (suc k) x low is y = let at : suc m + k ≡ m + suc k = omega arith in numbered-get (suc m) xs k x (omega (arith, low)) is y ∙ (λ i. (at i, x))

  abbrev pub all_signals : List (ℕ × Signal)
  all_signals = B.numbered d 0 d.signals

  pub signals-more : (k : ℕ) (s : Signal) (r : Option Break) → k < length d.signals → s ≡ get_or d.signals k s
      → IsLeast (flat_map (B.too_wide d) (take k all_signals) ++ B.too_wide d (k, s)) r → IsLeast (flat_map (B.too_wide d) (take (k + 1) all_signals)) r
  signals-more k s r low is h =
      let at : 0 + k ≡ k = omega arith in
      let long = numbered-length 0 d.signals in
      let here : (k, s) ≡ get_or all_signals k (k, s) = sym (numbered-get 0 d.signals k s low is (k, s) ∙ (λ i. (at i, s))) in
      subst (λ bs. IsLeast bs r) (sym (flat-take (B.too_wide d) all_signals k (k, s) (omega (arith, low, long)) here)) h

  pub signals-all : (k : ℕ) (r : Option Break) → length d.signals ≤ k → IsLeast (flat_map (B.too_wide d) (take k all_signals)) r → IsLeast (flat_map (B.too_wide d) all_signals) r
  signals-all k r past h =
      let long = numbered-length 0 d.signals in
      subst (λ qs. IsLeast (flat_map (B.too_wide d) qs) r) (take_all k all_signals (omega (arith, past, long))) h

  -- signals that are there are narrow
  pub narrow-at : (ss : List Signal) (k : ℕ) (s : Signal) → AreNarrow ss → s ≡ get_or ss k s → k < length ss → width_of s.of ≤ 4194304
  narrow-at ss k s narrow is low = narrow k s (slice_get_read ss (length ss) k s refl low is)
