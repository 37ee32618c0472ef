-- What declarations hide stands again behind them.
use Rattle.std.proofs.Common.{◌≡◌, ◌<◌, ◌≤◌, ◌+◌, ℕ, Bool, true, false, List, [], ◌∷◌, ◌++◌, length, take, drop, Option, refl, sym, ap, ◌∙◌, if◌then◌else◌, append_assoc, arith}
use Rattle.std.specs.Str.{bytes_eq}
use Rattle.std.proofs.lemmas.List.{drop-append-le, take-append-le, length-append, append-nil}
use Rattle.std.proofs.lemmas.Slice.Eq.{bytes_eq-Decides}
use Rattle.std.proofs.Math.Seq.{drop-append_seam, take-append_seam}
use Rattle.v_tree.specs.Names.{Name}
use Rattle.v_scopes.specs.declared.entry.Entry.{Entry}
use Rattle.v_scopes.specs.declared.scope.Hidden.{Hidden}
use Rattle.v_scopes.specs.declared.scope.Scope.{Scope}
use Rattle.v_scopes.specs.Env.{Env, found, hidden_in, given, before, undone, Within}

undone-push : (hs : List Hidden) (h : Hidden) (env : Env) → undone (hs ++ (h ∷ [])) env ≡ undone hs (given env h.name h.entry)
undone-push [] h env = refl
undone-push (g ∷ hs) h env = ap (λ (e : Env). given e g.name g.entry) (undone-push hs h env)

-- the last declaration is taken back
pub leave-step : (mark : ℕ) (now rest : List Hidden) (last : Hidden) (env new : Env) → mark < length now → now ≡ rest ++ (last ∷ []) → new ≡ given env last.name last.entry
    → (undone (drop mark rest) new ≡ undone (drop mark now) env) × (take mark rest ≡ take mark now)
leave-step mark now rest last env new more now_is new_is =
    let long : length now ≡ length rest + 1 = ap length now_is ∙ length-append rest (last ∷ []) in
    let low : mark ≤ length rest = omega (arith, more, long) in (
      ap (undone (drop mark rest)) new_is
          ∙ sym (undone-push (drop mark rest) last env)
          ∙ sym (ap (λ (hs : List Hidden). undone hs env) (drop-append-le mark rest (last ∷ []) low))
          ∙ sym (ap (λ (hs : List Hidden). undone (drop mark hs) env) now_is),
      sym (take-append-le mark rest (last ∷ []) low) ∙ sym (ap (take mark) now_is),
    )

back_at : (env : Env) (n m : Name) (e : Option Entry) (b : Bool) → bytes_eq n m ≡ b → (if b then env n else (if b then e else env m)) ≡ env m
back_at env n m e true same = ap env ((bytes_eq-Decides n m).0 same)
back_at env n m e false same = refl

given-back : (env : Env) (n : Name) (e : Option Entry) → given (given env n e) n (env n) ≡ env
given-back env n e = λ i m. back_at env n m e (bytes_eq n m) refl i

-- a place has the names of itself
pub within-itself : (s : Scope) → Within s s
within-itself s = record { names = []; further = sym (append-nil (hidden_in s)); back = refl }

-- one declaration more
pub within-more : (outer inner next : Scope) (name : Name) (e : Option Entry) → Within outer inner → found next ≡ given (found inner) name e
    → hidden_in next ≡ hidden_in inner ++ (before (found inner) name ∷ []) → Within outer next
within-more outer inner next name e w is hides = record {
  names = w.names ++ (before (found inner) name ∷ []);
  further = hides ∙ ap (λ (hs : List Hidden). hs ++ (before (found inner) name ∷ [])) w.further ∙ append_assoc (hidden_in outer) w.names (before (found inner) name ∷ []);
  back =
      undone-push w.names (before (found inner) name) (found next)
      ∙ ap (λ (env : Env). undone w.names (given env name (found inner name))) is
      ∙ ap (undone w.names) (given-back (found inner) name e)
      ∙ w.back;
}

-- and what a place has within another one that has it
pub within-both : (outer middle inner : Scope) → Within outer middle → Within middle inner → Within outer inner
within-both outer middle inner v w = record {
  names = v.names ++ w.names;
  further = w.further ∙ ap (λ (hs : List Hidden). hs ++ w.names) v.further ∙ append_assoc (hidden_in outer) v.names w.names;
  back = undone-both v.names w.names (found inner) ∙ ap (undone v.names) w.back ∙ v.back;
}
  where
    undone-both : (hs gs : List Hidden) (env : Env) → undone (hs ++ gs) env ≡ undone hs (undone gs env)
    undone-both [] gs env = refl
    undone-both (h ∷ hs) gs env = ap (λ (e : Env). given e h.name h.entry) (undone-both hs gs env)

-- what is taken back to the mark of a place is the place again
pub left : (outer inner after : Scope) → Within outer inner → found after ≡ undone (drop (length (hidden_in outer)) (hidden_in inner)) (found inner)
    → hidden_in after ≡ take (length (hidden_in outer)) (hidden_in inner) → (found after ≡ found outer) × (hidden_in after ≡ hidden_in outer)
left outer inner after w is kept = (
  is
      ∙ ap (λ (hs : List Hidden). undone hs (found inner)) (ap (drop (length (hidden_in outer))) w.further ∙ drop-append_seam (hidden_in outer) w.names)
      ∙ w.back,
  kept ∙ ap (take (length (hidden_in outer))) w.further ∙ take-append_seam (hidden_in outer) w.names,
)
