-- The breaks of all processes and of all functions, as the definition lists them.
use Rattle.std.proofs.Common.{◌≡◌, ℕ, Bool, true, false, List, [], ◌∷◌, ◌++◌, length, flat_map, append_assoc, Option, refl, ap, sym, ◌∙◌, subst, ◌+◌, ◌<◌, ◌≤◌, suc, zero, take, get_or, arith}
use Rattle.row_machine.specs.Valuation.{Place}
use Rattle.sv_types.specs.declared.design.Design.{Design}
use Rattle.sv_types.specs.declared.design.Process.{Process}
use Rattle.sv_types.specs.declared.statement.Function.{Function}
use Rattle.design_breaks.specs.declared.Break.{Break}
use Rattle.design_breaks.specs.Memories.{is_edged}
use Rattle.design_breaks.specs.Breaks as B
use Rattle.flow_breaks.specs.Pieces.{second_of, second_breaks}
use Rattle.function_breaks.specs.Early as E
use Rattle.least_breaks.specs.Least.{IsLeast}
use Rattle.proc_rules.specs.Processes.{own_breaks}
use Rattle.proc_rules.specs.Functions.{function_breaks_at}
use Rattle.std.proofs.lemmas.List.{take_all}
use Rattle.eval_forms.specs.Callees.{FunctionFits, AllFunctionsFit}
use Rattle.proc_rules.proofs.Lists.{least-same, flat-take, numbered-length, numbered-get, each-append, apart-into, apart-back}

module _ (d : Design) where
  -- a process's breaks are those of two writers and its own
  abbrev behind_early : Process → List Break
  behind_early p =
      let i = p.instance in
      B.at_each i 605 (B.at_once d p)
      ++ (B.at_each i 606 (B.deferred d (is_edged p.kind) p.body)
      ++ (B.at_each i 607 (B.unfit_edges d p)
      ++ (B.at_each i 608 (B.endless_of d p.body)
      ++ (B.at_each i 611 (B.writes_input d p)
      ++ B.at_each i 703 (B.too_long d p.body p.spot.at)))))

  process-is : (q : ℕ × Process) → B.process_breaks d q ≡ second_of d q ++ own_breaks d q.1
  process-is q =
      let i = q.1.instance in
      let twice = B.written_twice d q.0 q.1 in
      let drives = B.drives_a_value d q.1 in
      let early = B.read_early d q.1 in
      let local = B.local_early d q.1 in
      let left = B.at_each i 603 (B.left_out d q.1) in
      ap (λ bs. bs ++ (left ++ (B.at_each i 604 (early ++ local) ++ behind_early q.1))) (each-append i 601 twice drives)
      ∙ append_assoc (B.at_each i 601 twice) (B.at_each i 601 drives) (left ++ (B.at_each i 604 (early ++ local) ++ behind_early q.1))
      ∙ ap (λ bs. B.at_each i 601 twice ++ (B.at_each i 601 drives ++ (left ++ (bs ++ behind_early q.1)))) (each-append i 604 early local)
      ∙ ap (λ bs. B.at_each i 601 twice ++ (B.at_each i 601 drives ++ (left ++ bs))) (append_assoc (B.at_each i 604 early) (B.at_each i 604 local) (behind_early q.1))

  flat-same : {A : Type 0} (f g : A → List Break) → ((x : A) → f x ≡ g x) → (xs : List A) → flat_map f xs ≡ flat_map g xs
  flat-same f g same [] = refl
  flat-same f g same (x ∷ xs) = ap (λ bs. bs ++ flat_map f xs) (same x) ∙ ap (λ bs. g x ++ bs) (flat-same f g same xs)

  abbrev both_of : ℕ × Process → List Break
  both_of q = second_of d q ++ own_breaks d q.1

  pub processes-least : (r : Option Break) → IsLeast (second_breaks d ++ flat_map (own_breaks d) d.processes) r → IsLeast (flat_map (B.process_breaks d) (B.numbered d 0 d.processes)) r
  processes-least r h =
      subst (λ bs. IsLeast bs r) (sym (flat-same (B.process_breaks d) both_of process-is (B.numbered d 0 d.processes)))
      (least-same (second_breaks d ++ flat_map (own_breaks d) d.processes) (flat_map both_of (B.numbered d 0 d.processes)) r
      (apart-back d (second_of d) (own_breaks d) 0 d.processes) (apart-into d (second_of d) (own_breaks d) 0 d.processes) h)

  -- a function's breaks, if it is called
  early-parts : (f : Function) → B.at_each f.instance 604 (B.result_early d f) ≡ B.at_each f.instance 604 (E.local_early d f) ++ B.at_each f.instance 604 (E.result_early d f)
  early-parts f = by (B.unrolls d f.body)
    where
      by : (b : Bool) → B.at_each f.instance 604 (B.only_if b ((B.function_flow d f).unset ++ flat_map (λ (o : Place × ℕ). (B.function_flow d f).early o.0) (B.owed d f)))
          ≡ B.at_each f.instance 604 (B.only_if b (B.function_flow d f).unset) ++ B.at_each f.instance 604 (B.only_if b (flat_map (λ (o : Place × ℕ). (B.function_flow d f).early o.0) (B.owed d f)))
      by true = each-append f.instance 604 (B.function_flow d f).unset (flat_map (λ (o : Place × ℕ). (B.function_flow d f).early o.0) (B.owed d f))
      by false = refl

  abbrev behind_reads : Function → List Break
  behind_reads f =
      B.at_each f.instance 606 (B.deferred d false f.body)
      ++ (B.at_each f.instance 608 (B.endless_of d f.body)
      ++ B.at_each f.instance 703 (B.too_long d f.body f.spot.at))

  pub function-is : (n : ℕ) (f : Function) (called : Bool) → called ≡ B.is_called d (length d.functions) n → B.only_if called (function_breaks_at d f) ≡ B.function_breaks d (n, f)
  function-is n f called is =
      let i = f.instance in
      let left = B.at_each i 603 (B.result_left_out d f) in
      ap (λ b. B.only_if b (function_breaks_at d f)) is
      ∙ ap (λ bs. B.only_if (B.is_called d (length d.functions) n) (left ++ bs))
      (sym (append_assoc (B.at_each i 604 (E.local_early d f)) (B.at_each i 604 (E.result_early d f)) (behind_reads f)) ∙ sym (ap (λ bs. bs ++ behind_reads f) (early-parts f)))

  -- so far, and one more
  abbrev all_functions : List (ℕ × Function)
  all_functions = B.numbered d 0 d.functions

  pub functions-more : (k : ℕ) (f : Function) (called : Bool) (r : Option Break) → k < length d.functions → f ≡ get_or d.functions k f → called ≡ B.is_called d (length d.functions) k
      → IsLeast (flat_map (B.function_breaks d) (take k all_functions) ++ B.only_if called (function_breaks_at d f)) r → IsLeast (flat_map (B.function_breaks d) (take (k + 1) all_functions)) r
  functions-more k f called r low is its h =
      let at : 0 + k ≡ k = omega arith in
      let long = numbered-length d 0 d.functions in
      let here : (k, f) ≡ get_or all_functions k (k, f) = sym (numbered-get d 0 d.functions k f low is (k, f) ∙ (λ i. (at i, f))) in
      subst (λ bs. IsLeast bs r)
      (ap (λ bs. flat_map (B.function_breaks d) (take k all_functions) ++ bs) (function-is k f called its) ∙ sym (flat-take (B.function_breaks d) all_functions k (k, f) (omega (arith, low, long)) here)) h

  pub functions-all : (k : ℕ) (r : Option Break) → length d.functions ≤ k → IsLeast (flat_map (B.function_breaks d) (take k all_functions)) r → IsLeast (flat_map (B.function_breaks d) all_functions) r
  functions-all k r past h =
      let long = numbered-length d 0 d.functions in
      subst (λ qs. IsLeast (flat_map (B.function_breaks d) qs) r) (take_all k all_functions (omega (arith, past, long))) h

  pub processes-more : (k : ℕ) (p : Process) (r : Option Break) → k < length d.processes → p ≡ get_or d.processes k p
      → IsLeast (flat_map (own_breaks d) (take k d.processes) ++ own_breaks d p) r → IsLeast (flat_map (own_breaks d) (take (k + 1) d.processes)) r
  processes-more k p r low is h = subst (λ bs. IsLeast bs r) (sym (flat-take (own_breaks d) d.processes k p low is)) h

pub fits-at : (fs : List Function) (k : ℕ) (f : Function) → f ≡ get_or fs k f → k < length fs → AllFunctionsFit fs → FunctionFits f
fits-at [] k f is low h = absurd (omega arith)
fits-at (g ∷ fs) zero f is low h = subst FunctionFits (sym is) h.0
fits-at (g ∷ fs) (suc k) f is low h = fits-at fs k f is (omega arith) h.1
