-- The scope and the functions of a place, as the code has them.
use Rattle.std.specs.Prelude.{ℕ, zero, suc, List, map, Option}
use Rattle.v_tree.specs.declared.expressions.VPrim.{VPrim, fold-VPrim}
use Rattle.v_tree.specs.declared.items.VFunction.{VFunction}
use Rattle.v_meaning.specs.Scopes as S
use Rattle.v_meaning.specs.Selects.{SelMeaning}
use Rattle.v_meaning.specs.Values.{Meaning, expr_step, prim_step, sel_step}
use Rattle.v_meaning.specs.Functions.{callees_within, callee_of, callee_or_absent, not_run}
use Rattle.v_meaning.specs.Modules.{functions as functions_in}
use Rattle.v_eval.specs.declared.operators.Context.{Context}
use Rattle.v_eval.specs.declared.scopes.Scope.{Scope}
use Rattle.v_eval.specs.Functions.{function_at}
use Rattle.v_eval.specs.Names.{names_of, signal_named}

abbrev pub prim_meaning : VPrim → Meaning
prim_meaning = fold-VPrim Meaning Meaning SelMeaning expr_step prim_step sel_step

abbrev pub signals_of : Scope → List S.Named
signals_of s = map (signal_named s.first) s.module.now.signals.entries

abbrev pub scope_of : Scope → S.Scope
scope_of s = record {
  names = names_of s;
  next = s.next;
  callee = callees_within s.depth (signals_of s) (functions_in s.module.now.items.now);
}

-- a function with calls that go so deep
abbrev pub callee_within : ℕ → List S.Named → List VFunction → VFunction → S.Callee
callee_within zero names fs f = not_run f
callee_within (suc depth) names fs f = callee_of (record { names = names; next = 0; callee = callees_within depth names fs }) f

-- the function at an item
abbrev pub callee_at : Scope → Option ℕ → S.Callee
callee_at s o =
    callee_or_absent (callee_within s.depth (signals_of s) (functions_in s.module.now.items.now)) (function_at s.module.now.items.now o)

-- the width and the sign alone
abbrev pub own : Meaning → S.Scope → Context
own m sc = record { width = m.width sc; signed = m.signed }
