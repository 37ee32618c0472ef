-- What is called is reached from the calls of processes along the calls of functions.
use Rattle.std.proofs.Common.{◌≡◌, ℕ, zero, suc, ◌<◌, Bool, true, false, ◌&&◌, ◌||◌, ◌==◌, List, [], ◌∷◌, ◌++◌, length, map, flat_map, refl, ap, sym, ◌∙◌, subst}
use Rattle.std.specs.List.{list_any}
use Rattle.std.proofs.lemmas.List.{length-map}
use Rattle.sv_types.specs.declared.design.Design.{Design}
use Rattle.sv_types.specs.declared.design.Process.{Process}
use Rattle.sv_types.specs.declared.statement.Function.{Function}
use Rattle.design_breaks.specs.Breaks as B
use Rattle.reach_marks.specs.Reach.{is_in, leads, reaches, IsReached}
use Rattle.call_reach.specs.Called.{process_calls, function_calls, AreCalled}

or-assoc : (a b c : Bool) → ((a || b) || c) ≡ (a || (b || c))
or-assoc true b c = refl
or-assoc false b c = refl

in-append : (ns ms : List ℕ) (n : ℕ) → is_in (ns ++ ms) n ≡ (is_in ns n || is_in ms n)
in-append [] ms n = refl
in-append (k ∷ ns) ms n = ap (λ b. (k == n) || b) (in-append ns ms n) ∙ sym (or-assoc (k == n) (is_in ns n) (is_in ms n))

module _ (d : Design) where
  abbrev roots : List ℕ
  roots = flat_map process_calls d.processes

  abbrev next : List (List ℕ)
  next = map function_calls d.functions

  by-processes : (ps : List Process) (n : ℕ) → list_any (λ (p : Process). B.calls_it d n p.body) ps ≡ is_in (flat_map process_calls ps) n
  by-processes [] n = refl
  by-processes (p ∷ ps) n = ap (λ b. B.calls_it d n p.body || b) (by-processes ps n) ∙ sym (in-append (process_calls p) (flat_map process_calls ps) n)

  by-functions : (s t : ℕ → Bool) → ((m : ℕ) → s m ≡ t m) → (k : ℕ) (fs : List Function) (n : ℕ)
      → list_any (λ (g : ℕ × Function). B.calls_it d n g.1.body && s g.0) (B.numbered d k fs) ≡ leads t k (map function_calls fs) n
  by-functions s t same k [] n = refl
  by-functions s t same k (f ∷ fs) n =
      ap (λ b. (B.calls_it d n f.body && b) || list_any (λ (g : ℕ × Function). B.calls_it d n g.1.body && s g.0) (B.numbered d (suc k) fs)) (same k)
      ∙ ap (λ b. (B.calls_it d n f.body && t k) || b) (by-functions s t same (suc k) fs n)

  called-zero : (n : ℕ) → B.is_called d zero n ≡ reaches roots next zero n
  unfolding B.is_called reaches
  called-zero n = by-processes d.processes n

  called-suc : (depth : ℕ) → ((m : ℕ) → B.is_called d depth m ≡ reaches roots next depth m) → (n : ℕ) → B.is_called d (suc depth) n ≡ reaches roots next (suc depth) n
  unfolding B.is_called reaches
  called-suc depth same n =
      ap (λ b. b || list_any (λ (g : ℕ × Function). B.calls_it d n g.1.body && B.is_called d depth g.0) (B.numbered d 0 d.functions)) (by-processes d.processes n)
      ∙ ap (λ b. is_in roots n || b) (by-functions (B.is_called d depth) (reaches roots next depth) same 0 d.functions n)

  called-reached : (depth n : ℕ) → B.is_called d depth n ≡ reaches roots next depth n
  called-reached zero n = called-zero n
  called-reached (suc depth) n = called-suc depth (called-reached depth) n

  are-called : (marks : List Bool) → IsReached roots next marks → AreCalled d marks
  are-called marks h =
      let many : length next ≡ length d.functions = length-map d.functions function_calls in
      record {
        count = h.count ∙ many;
        each = λ n low. h.each n (subst (λ k. n < k) (sym many) low) ∙ ap (λ k. reaches roots next k n) many ∙ sym (called-reached (length d.functions) n);
      }

pub called-law : (ps : List Process) (fs : List Function) (marks : List Bool) → IsReached (flat_map process_calls ps) (map function_calls fs) marks
    → (d : Design) → ps ≡ d.processes → fs ≡ d.functions → AreCalled d marks
called-law ps fs marks h d p f = are-called d marks (subst (λ (xs : List Process). IsReached (flat_map process_calls xs) next_ marks) p (subst (λ (xs : List Function). IsReached (flat_map process_calls ps) (map function_calls xs) marks) f h))
  where
    next_ : List (List ℕ)
    next_ = map function_calls d.functions
