use Rattle.std.proofs.Common.{◌≡◌, ◌-◌, ℕ, suc, nat_eq, true, false, List, take, Some, sym, ap, ◌∙◌, arith}
use Rattle.std.proofs.lemmas.Bool.Decides.{nat_tests}
use Rattle.frame_texts.specs.Frames.{shorter, is_generate_scope, home_from}
use Rattle.typing_names.specs.Homes.{home_at}
use Rattle.typing_names.proofs.Outwards.{home-out}
use Rattle.typing_names.proofs.source_names.SourceNames.path_end.Goals as goal

pub loop-left-preserved : goal.loop-left-preserved
loop-left-preserved c =
    let tree = c.args.self.now.tree.now in
    let t = c.args.self.now.names.now in
    let f = c.args.frame.now in
    let inner = c.loop-left.inner in
    let more = c.loop-left.left - 1 in
    let next : c.loop-left.left ≡ suc more = omega (arith, c.loop-left-test.true) in
    let other : nat_eq inner c.args.scope ≡ false = grind (arith, nat_tests, c.if-inner-scope.false) in
    let generate : is_generate_scope tree t inner ≡ true = sym c.is_generate_scope.ensures ∙ c.if-not-is_generate_scope.false in
    let path : take c.last_stop-end.result f.path ≡ shorter tree t (take c.loop-left.end f.path) =
    ap (take c.last_stop-end.result) (sym c.as_bytes-path.ensures) ∙ c.last_stop-end.ensures.shorter ∙ ap (λ (p : List ℕ). shorter tree t (take c.loop-left.end p)) c.as_bytes-path.ensures in
    record {
      inside = omega (arith, c.last_stop-end.ensures.bound, c.loop-left.invariant.inside);
      home = ap (λ (p : List ℕ). home_from tree t more (record { instance = f.instance; path = p }) c.outer-inner.result c.args.scope) path
          ∙ ap (λ (o : ℕ). home_from tree t more (record { instance = f.instance; path = shorter tree t (take c.loop-left.end f.path) }) o c.args.scope) c.outer-inner.ensures
          ∙ sym (home-out tree t (home_at f (Some c.loop-left.end)) more inner c.args.scope other generate)
          ∙ ap (λ (n : ℕ). home_from tree t n (home_at f (Some c.loop-left.end)) inner c.args.scope) (sym next)
          ∙ c.loop-left.invariant.home;
    }
