-- What functions give hangs on the signals that they read.
use Rattle.std.proofs.Common.{◌≡◌, ℕ, zero, suc, List, Option, Some, None, refl, ap, ◌∙◌}
use Rattle.std.specs.Prelude.{length}
use Rattle.b4_core.specs.declared.bit.Bit4.{Bit4}
use Rattle.row_machine.specs.Valuation.{Valuation, put, changed}
use Rattle.row_machine.specs.Places.{vector_at}
use Rattle.v_tree.specs.Names.{Name}
use Rattle.v_tree.specs.declared.items.VFunction.{VFunction}
use Rattle.v_meaning.specs.Scopes.{Named, Scope, Callee, Use, local_number, bits_of_range, absent}
use Rattle.v_meaning.specs.Runs.{State, begun, cleared, assign_now}
use Rattle.v_meaning.specs.Statements.{doing}
use Rattle.v_meaning.specs.Functions.{locals_of, inputs_of, scope_in, bound, callee_of, not_run, find, callee_or_absent, callees_within}
use Rattle.v_meaning.specs.Modules.{numbered, signals, functions}
use Rattle.v_footprints.specs.Footprints.{Alike, FunctionsHang}
use Rattle.v_footprints.specs.Laws.{ModulesHang}
use Rattle.v_footprints.proofs.Uses.{alike-signals, vector-alike}
use Rattle.v_footprints.proofs.Runs.{body_hangs}

-- a function gives the same where valuations are alike in the signals that it reads
record CalleeHangs (c : Callee) : Type 0 where
  same : (v w : Valuation) → Alike c.reads v w → (args : List (List Bit4)) → c.run v args ≡ c.run w args

absent-hangs : CalleeHangs absent
absent-hangs = record { same = λ v w a args. refl }

not-run-hangs : (f : VFunction) → CalleeHangs (not_run f)
not-run-hangs f = record { same = λ v w a args. refl }

local-alike : (us : List Use) (v w : Valuation) → Alike us v w → (k : ℕ) → v (record { signal = local_number 0; bit = k }) ≡ w (record { signal = local_number 0; bit = k })
local-alike us v w a k = a.same (record { signal = local_number 0; bit = k }) refl

run-hangs : (f : VFunction) (sc : Scope) → FunctionsHang sc → CalleeHangs (callee_of sc f)
run-hangs f sc g = record {
  same = λ v w a args.
      let inner = scope_in f sc in
      let b : Alike ((doing f.body).reads inner) v w = alike-signals ((doing f.body).reads inner) v w a in
      let from = assign_now (bound (inputs_of f) args) (assign_now (cleared (locals_of f)) begun) in
      let h = body_hangs f.body inner (record { same = g.same }) in
      let s = (doing f.body).run inner v from in
      vector-alike (put s.written v) (put s.written w) (local_number 0)
      (λ k. ap (changed (s.written (record { signal = local_number 0; bit = k }))) (local-alike ((doing f.body).reads inner) v w b k)) (bits_of_range f.range)
      ∙ ap (λ (t : State). vector_at (put t.written w) (local_number 0) (bits_of_range f.range)) (h.same v w b from);
}

found-hangs : (c : VFunction → Callee) → ((f : VFunction) → CalleeHangs (c f)) → (o : Option VFunction) → CalleeHangs (callee_or_absent c o)
found-hangs c h None = absent-hangs
found-hangs c h (Some f) = h f

within-hangs : (depth : ℕ) (names : List Named) (fs : List VFunction) (name : Name) → CalleeHangs (callees_within depth names fs name)
unfolding callees_within
within-hangs zero names fs name = found-hangs not_run not-run-hangs (find fs name)
within-hangs (suc depth) names fs name =
    let sc : Scope = record { names = names; next = 0; callee = callees_within depth names fs } in
    found-hangs (callee_of sc) (λ f. run-hangs f sc (record { same = λ n. (within-hangs depth names fs n).same })) (find fs name)

pub modules_hang : ModulesHang
modules_hang first items = record { same = λ name. (within-hangs (length (functions items)) (numbered first (signals items)) (functions items) name).same }
