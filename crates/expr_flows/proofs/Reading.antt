-- What expressions read, from what their parts read.
use Rattle.std.proofs.Common.{◌≡◌, ℕ, Bool, true, false, ◌&&◌, cond, List, [], ◌∷◌, ◌++◌, Option, None, refl, ap, sym, ◌∙◌, subst}
use Rattle.bit_sets.specs.declared.span.Use.{Use}
use Rattle.sv_types.specs.declared.expression.Expr.{Expr}
use Rattle.sv_types.specs.Windows.{whole}
use Rattle.sv_types.specs.Meanings.{Meaning, Prefix, wide, root_sure, use_of}
use Rattle.sv_types.specs.Paths.{reads_from}
use Rattle.sv_types.specs.Expressions.{meaning}
use Rattle.eval_parts.specs.declared.path_steps.Step.{Step}
use Rattle.eval_parts.specs.Places.{IsNear}
use Rattle.eval_parts.specs.Steps.{IsStep}
use Rattle.eval_forms.specs.declared.asked.Ask.{Ask}
use Rattle.eval_forms.specs.declared.asked.Ask.TheVariants as A
use Rattle.eval_forms.specs.Asked.{Asked}
use Rattle.expr_flows.specs.declared.known.Known.{Known}
use Rattle.expr_flows.specs.declared.traced.Traced.{Traced}
use Rattle.expr_flows.specs.Known.{sight}
use Rattle.expr_flows.specs.Traces.{IsTraced, Adds, prefix_of}
use Rattle.expr_flows.specs.Reads.{Reads, reads_asked, constant_asked}
use Rattle.expr_flows.proofs.Adding as D
use Rattle.expr_flows.proofs.Operands.{all_reads, all_constant}
use Rattle.expr_flows.proofs.Paths as P
use Rattle.expr_flows.proofs.Paths.{Traces}

-- a path
pub path-done : (e : Expr) (s : Step) (k : Known) (t : Traced) (sure : Bool) (old mid new start made : List Use) (b : Bool) → IsStep s e → IsTraced t k (meaning e) → sure ≡ root_sure t.root (sight k)
    → Adds old mid (cond sure [] (use_of t.root e.spot.at (prefix_of t))) → start ≡ [] → Adds start made (reads_from (meaning e).root (meaning e) (sight k)) → new ≡ mid ++ made → b ≡ (t.exact && (t.base && sure)) → Reads b k (meaning e) old new
path-done e s k t sure old mid new start made b step traced known own none indices both is =
    let m = meaning e in
    let same : sure ≡ root_sure m.root (sight k) = known ∙ ap (λ r. root_sure r (sight k)) (sym traced.root) in
    let uses : cond sure [] (use_of t.root e.spot.at (prefix_of t)) ≡ cond (root_sure m.root (sight k)) [] (use_of m.root e.spot.at (m.prefix (sight k))) =
    ap (λ c. cond c [] (use_of t.root e.spot.at (prefix_of t))) same ∙ ap (λ r. cond (root_sure m.root (sight k)) [] (use_of r e.spot.at (prefix_of t))) (sym traced.root)
    ∙ ap (λ p. cond (root_sure m.root (sight k)) [] (use_of m.root e.spot.at p)) (sym traced.prefix) in
    record {
      constant = is ∙ ap (λ c. t.exact && (t.base && c)) same ∙ sym traced.constant;
      adds = D.at old new _ _ (sym (P.reads-split e s (sight k) step)) (D.both old mid new _ _ (D.at old mid _ _ uses own) (D.behind mid new made _ both (subst (λ us. Adds us made (reads_from m.root m (sight k))) none indices)));
    }

-- a value
both-known : (c : Bool) (r : Option ℕ) (k : Known) → r ≡ None → c ≡ (c && (c && root_sure r (sight k)))
both-known true r k is = sym (ap (λ o. root_sure o (sight k)) is)
both-known false r k is = refl

pub value-traced : (m : Meaning) (t : Traced) (k : Known) (w : ℕ) (c : Bool) → m.root ≡ None → m.prefix (sight k) ≡ record { window = whole (wide m); exact = m.constant (sight k) } → w ≡ wide m → c ≡ m.constant (sight k) → t.root ≡ None
    → prefix_of t ≡ record { window = whole w; exact = c } → t.base ≡ c → IsNear t.window.shift → Traces t k m (m.reads (sight k))
value-traced m t k w c root prefix width constant none of base near = (
  record {
    root = root ∙ sym none;
    prefix = prefix ∙ ap (λ (b : Bool). record { window = whole (wide m); exact = b }) (sym constant) ∙ ap (λ (n : ℕ). record { window = whole n; exact = c }) (sym width) ∙ sym of;
    constant = sym constant ∙ both-known c m.root k root ∙ ap (λ b. b && (c && root_sure m.root (sight k))) (sym (ap (λ (p : Prefix). p.exact) of)) ∙ ap (λ b. t.exact && (b && root_sure m.root (sight k))) (sym base);
    near = near;
  },
  ap (λ r. reads_from r m (sight k)) root,
)

-- an operand that was valued before
again-reads : (k : Known) (q : Asked) (a : Ask) (w : ℕ) (s : Bool) (us : List Use) → q.ask ≡ a → a ≡ A.Again w s → (true ≡ constant_asked (sight k) q) × Adds us us (reads_asked (sight k) q)
again-reads k q a w s us is at =
    let again : record { of = q.of; ask = A.Again w s } ≡ q = ap (λ (b : Ask). record { of = q.of; ask = b }) (sym (is ∙ at)) in
    subst (λ p. (true ≡ constant_asked (sight k) p) × Adds us us (reads_asked (sight k) p)) again (refl, D.none us)

pub asked-again : (k : Known) (q : Asked) (w : ℕ) (s : Bool) (us : List Use) → q.ask ≡ A.Again w s → (true ≡ constant_asked (sight k) q) × Adds us us (reads_asked (sight k) q)
asked-again k q w s us is = again-reads k q (A.Again w s) w s us is refl

-- one operand more
pub constant-next : (k : Known) (q : Asked) (qs : List Asked) (before one next all : Bool) → one ≡ constant_asked (sight k) q → next ≡ (before && one) → (before && all_constant (sight k) (q ∷ qs)) ≡ all → (next && all_constant (sight k) qs) ≡ all
constant-next k q qs before one next all is more h = ap (λ b. b && all_constant (sight k) qs) (more ∙ ap (λ b. before && b) is) ∙ row before (constant_asked (sight k) q) (all_constant (sight k) qs) ∙ h
  where
    row : (a b c : Bool) → ((a && b) && c) ≡ (a && (b && c))
    row true b c = refl
    row false b c = refl

pub adds-next : (k : Known) (q : Asked) (qs : List Asked) (us vs : List Use) (all : List Use → Type 0) → Adds us vs (reads_asked (sight k) q) → ((final : List Use) → Adds us final (all_reads (sight k) (q ∷ qs)) → all final)
    → (final : List Use) → Adds vs final (all_reads (sight k) qs) → all final
adds-next k q qs us vs all one h final rest = h final (D.both us vs final _ _ one rest)
