-- What is asked is lowered, one by one.
use Rattle.std.proofs.Common.{◌≡◌, ℕ, suc, ◌+◌, ◌<◌, Bool, List, [], ◌∷◌, ◌++◌, append_assoc, append-nil, length, drop, get_or, refl, ap, sym, ◌∙◌, subst}
use Rattle.std.proofs.Math.Seq.{drop-cons}
use Rattle.std.proofs.Math.Numerals.{add-one}
use Rattle.row_machine.specs.Valuation.{Valuation}
use Rattle.sv_types.specs.declared.statement.Function.{Function}
use Rattle.sv_types.specs.declared.expression.Expr.{Expr}
use Rattle.sv_types.specs.Surroundings.{Around}
use Rattle.sv_types.specs.Expressions.{meaning}
use Rattle.v_tree.specs.declared.names.Helper.{Helper}
use Rattle.v_tree.specs.declared.names.NameMap.{NameMap}
use Rattle.v_tree.specs.declared.expressions.VExpr.{VExpr}
use Rattle.v_build.specs.Trees.{meanings}
use Rattle.v_meaning.specs.Scopes.{Scope}
use Rattle.v_meaning.specs.Values as T
use Rattle.eval_forms.specs.Asked.{Asked, width_asked, sign_asked}
use Rattle.lowering_laws.specs.Agreeing.{Images, Agree}
use Rattle.path_flatten.specs.Helping.{EachHelps, Grows}
use Rattle.path_flatten.proofs.Helping.{helps-before}
use Rattle.expr_lower.specs.Lowering.{LeafStands, Lowers, LowersEach, SameEach, NamesEach}
use Rattle.expr_lower.proofs.AskedLeaves.{EachAsked}

-- the items from a place on
pub at-front : {A : Type 0} (xs : List A) (i : ℕ) (x : A) → i < length xs → x ≡ get_or xs i x → drop i xs ≡ x ∷ drop (i + 1) xs
at-front xs i x h is = drop-cons xs i x h ∙ ap (λ y. y ∷ drop (suc i) xs) (sym is) ∙ ap (λ k. x ∷ drop k xs) (sym (add-one i))

-- one more
pub each-next : (names : NameMap) (fs : List Function) (hs : List Helper) (qs : List Asked) (ms : List T.Meaning) (q : Asked) (m : T.Meaning) → LowersEach names fs hs qs ms
    → Lowers names fs hs q.of (width_asked q.ask (meaning q.of)) (sign_asked q.ask (meaning q.of)) m → LowersEach names fs hs (qs ++ q ∷ []) (ms ++ m ∷ [])
each-next names fs hs [] [] q m h one = (one, tt)
each-next names fs hs [] (k ∷ ms) q m h one = absurd h
each-next names fs hs (p ∷ qs) [] q m h one = absurd h
each-next names fs hs (p ∷ qs) (k ∷ ms) q m h one = (h.0, each-next names fs hs qs ms q m h.1 one)

-- on valuations that agree
pub same-each : (names : NameMap) (fs : List Function) (hs : List Helper) (qs : List Asked) (ms : List T.Meaning) (im : Images) (a : Around) (sc : Scope) (now v : Valuation) → LowersEach names fs hs qs ms
    → EachAsked (LeafStands names fs im a sc) qs → EachHelps hs sc → Agree im now v → SameEach qs (record a { now = now }) ms sc v
same-each names fs hs [] [] im a sc now v h all helps agree = tt
same-each names fs hs [] (m ∷ ms) im a sc now v h all helps agree = absurd h
same-each names fs hs (q ∷ qs) [] im a sc now v h all helps agree = absurd h
same-each names fs hs (q ∷ qs) (m ∷ ms) im a sc now v h all helps agree = ((h.0 im a sc all.0 helps).stands now v agree, same-each names fs hs qs ms im a sc now v h.1 all.1 helps agree)

-- and what it names
pub names-each : (names : NameMap) (fs : List Function) (hs : List Helper) (qs : List Asked) (ms : List T.Meaning) (im : Images) (a : Around) (sc : Scope) → LowersEach names fs hs qs ms
    → EachAsked (LeafStands names fs im a sc) qs → EachHelps hs sc → NamesEach im.number qs ms sc
names-each names fs hs [] [] im a sc h all helps = tt
names-each names fs hs [] (m ∷ ms) im a sc h all helps = absurd h
names-each names fs hs (q ∷ qs) [] im a sc h all helps = absurd h
names-each names fs hs (q ∷ qs) (m ∷ ms) im a sc h all helps = ((h.0 im a sc all.0 helps).names, names-each names fs hs qs ms im a sc h.1 all.1 helps)

-- what is lowered stays so with more helpers
pub lowers-more : (names : NameMap) (fs : List Function) (old new : List Helper) (e : Expr) (w : ℕ) (s : Bool) (m : T.Meaning) → Grows old new → Lowers names fs old e w s m → Lowers names fs new e w s m
lowers-more names fs old new e w s m grows h im a sc all helps = h im a sc all (helps-before old new sc grows helps)

pub each-more : (names : NameMap) (fs : List Function) (old new : List Helper) (qs : List Asked) (ms : List T.Meaning) → Grows old new → LowersEach names fs old qs ms → LowersEach names fs new qs ms
each-more names fs old new [] [] grows h = tt
each-more names fs old new [] (m ∷ ms) grows h = absurd h
each-more names fs old new (q ∷ qs) [] grows h = absurd h
each-more names fs old new (q ∷ qs) (m ∷ ms) grows h =
    (lowers-more names fs old new q.of (width_asked q.ask (meaning q.of)) (sign_asked q.ask (meaning q.of)) m grows h.0, each-more names fs old new qs ms grows h.1)

-- Some of what is asked is lowered, and the rest is still to do.
pub record Made (names : NameMap) (fs : List Function) (hs : List Helper) (rest all : List Asked) (ms : List T.Meaning) : Type 0 where
  pub done : List Asked
  pub split : done ++ rest ≡ all
  pub each : LowersEach names fs hs done ms

pub made-none : (names : NameMap) (fs : List Function) (hs : List Helper) (all : List Asked) → Made names fs hs all all []
made-none names fs hs all = record { done = []; split = refl; each = tt }

pub made-more : (names : NameMap) (fs : List Function) (old new : List Helper) (rest all : List Asked) (ms : List T.Meaning) → Grows old new → Made names fs old rest all ms → Made names fs new rest all ms
made-more names fs old new rest all ms grows h = record { done = h.done; split = h.split; each = each-more names fs old new h.done ms grows h.each }

pub made-next : (names : NameMap) (fs : List Function) (hs : List Helper) (q : Asked) (rest all : List Asked) (ms : List T.Meaning) (m : T.Meaning) → Made names fs hs (q ∷ rest) all ms
    → Lowers names fs hs q.of (width_asked q.ask (meaning q.of)) (sign_asked q.ask (meaning q.of)) m → Made names fs hs rest all (ms ++ m ∷ [])
made-next names fs hs q rest all ms m h one = record {
  done = h.done ++ q ∷ [];
  split = append_assoc h.done (q ∷ []) rest ∙ h.split;
  each = each-next names fs hs h.done ms q m h.each one;
}

pub made-all : (names : NameMap) (fs : List Function) (hs : List Helper) (rest all : List Asked) (ms : List T.Meaning) → Made names fs hs rest all ms → rest ≡ [] → LowersEach names fs hs all ms
made-all names fs hs rest all ms h none = subst (λ l. LowersEach names fs hs l ms) (sym (append-nil h.done) ∙ ap (λ r. h.done ++ r) (sym none) ∙ h.split) h.each

pub each-long : (names : NameMap) (fs : List Function) (hs : List Helper) (qs : List Asked) (ms : List T.Meaning) → LowersEach names fs hs qs ms → length ms ≡ length qs
each-long names fs hs [] [] h = refl
each-long names fs hs [] (m ∷ ms) h = absurd h
each-long names fs hs (q ∷ qs) [] h = absurd h
each-long names fs hs (q ∷ qs) (m ∷ ms) h = ap suc (each-long names fs hs qs ms h.1)

pub length-meanings : (es : List VExpr) → length (meanings es) ≡ length es
length-meanings [] = refl
length-meanings (e ∷ es) = ap suc (length-meanings es)
