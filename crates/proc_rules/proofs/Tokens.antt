-- Lists of tokens that are empty, and the tokens of E703.
use Rattle.std.proofs.Common.{◌≡◌, inl, inr, ℕ, Bool, true, false, ◌&&◌, not, cond, List, [], ◌∷◌, ◌++◌, map, filter, flat_map, Option, Some, None, refl, ap, sym, ◌∙◌, subst, arith}
use Rattle.std.specs.Prelude.{nat_lt}
use Rattle.std.proofs.lemmas.Bool.{and_parts, false≢true}
use Rattle.row_machine.specs.Valuation.{Place, Member}
use Rattle.sv_types.specs.declared.design.Design.{Design}
use Rattle.sv_types.specs.declared.design.Process.{Process}
use Rattle.sv_types.specs.declared.statement.Function.{Function}
use Rattle.sv_types.specs.declared.statement.Stmt.{Stmt}
use Rattle.sv_types.specs.Surroundings as S
use Rattle.sv_types.specs.Surroundings.{is_signal}
use Rattle.sv_types.specs.Flows.{covered, uses_of}
use Rattle.sv_types.specs.Machine.{parts, places}
use Rattle.sv_types.specs.declared.statement.Outcome.TheVariants.{Normal}
use Rattle.design_breaks.specs.Memories.{flow, is_edged, writes_of}
use Rattle.design_breaks.specs.Breaks as B
use Rattle.flow_breaks.proofs.Lists.{member-if}
use Rattle.least_breaks.specs.Least.{IsLeastToken}
use Rattle.proc_rules.specs.declared.bodies.Loops.{Loops}
use Rattle.proc_rules.specs.Processes.{AreBitTokens, IsLoops, long_token}
use Rattle.proc_rules.specs.Functions.{AreOwedTokens}

-- a list that stands only if something holds that doesn't
none-if : (b : Bool) (xs : List ℕ) → b ≡ false → IsLeastToken (B.only_if b xs) None
none-if b xs is = λ t m. false≢true (sym is ∙ (member-if b xs t m).0)

none-first : (a b : Bool) (xs : List ℕ) → a ≡ false → IsLeastToken (B.only_if (a && b) xs) None
none-first a b xs is = λ t m. false≢true (sym is ∙ (and_parts a b (member-if (a && b) xs t m).0).0)

none-second : (a b : Bool) (xs : List ℕ) → b ≡ true → IsLeastToken (B.only_if (a && not b) xs) None
none-second a b xs is = λ t m. false≢true (ap not (sym is) ∙ (and_parts a (not b) (member-if (a && not b) xs t m).0).1)

pub complete-none : (d : Design) (p : Process) → B.is_complete d p.kind ≡ true → IsLeastToken (B.left_out d p) None
complete-none d p is = none-second (B.unrolls d p.body) (B.is_complete d p.kind) (flat_map (λ q. B.only_if ((flow d p).slips Normal q) (B.first_write d (flow d p) q)) (places (parts d))) is

pub edged-none : (d : Design) (p : Process) → is_edged p.kind ≡ true → IsLeastToken (B.read_early d p) None
edged-none d p is = none-second (B.unrolls d p.body) (is_edged p.kind) (flat_map (λ q. B.only_if (covered (uses_of (flow d p).writes) q) ((flow d p).early q)) (places (parts d))) is

drives-none : (d : Design) (p : Process) → B.unrolls d p.body ≡ false → IsLeastToken (B.drives_a_value d p) None
drives-none d p is = λ t m.
    let r = member-if (B.continuous d p.kind) (map at_of (filter declared (B.all_writes d p))) t m in
    elim (subst (λ b. Member (map at_of (filter declared (B.only_if b (filter (λ (u : S.Use). is_signal u.number) (writes_of d p))))) t) is r.1) [ ]
  where
    at_of : S.Use → ℕ
    at_of u = u.at

    declared : S.Use → Bool
    declared u = B.is_declared d u.number && nat_lt u.low u.high

pub none-found : (d : Design) (p : Process) → B.unrolls d p.body ≡ false → AreBitTokens d p (record { drives = None; left = None; early = None; local = None; input = None })
none-found d p is = record {
  drives = drives-none d p is;
  left = none-first (B.unrolls d p.body) (not (B.is_complete d p.kind)) (flat_map (λ q. B.only_if ((flow d p).slips Normal q) (B.first_write d (flow d p) q)) (places (parts d))) is;
  early = none-first (B.unrolls d p.body) (not (is_edged p.kind)) (flat_map (λ q. B.only_if (covered (uses_of (flow d p).writes) q) ((flow d p).early q)) (places (parts d))) is;
  local = none-if (B.unrolls d p.body) (flow d p).unset is;
  input = none-if (B.unrolls d p.body)
      (map (λ (u : S.Use). u.at) (filter (λ (u : S.Use). B.is_any_input d u.number && (nat_lt u.low u.high && not (B.is_own_link d p.kind u.number))) (uses_of (flow d p).writes ++ uses_of (flow d p).later))) is;
}

pub none-owed : (d : Design) (f : Function) → B.unrolls d f.body ≡ false → AreOwedTokens d f (record { left = None; early = None; local = None })
none-owed d f is = record {
  left = none-if (B.unrolls d f.body) (map (λ (o : Place × ℕ). o.1) (filter (λ (o : Place × ℕ). B.slips_out d (B.function_flow d f) o.0) (B.owed d f))) is;
  early = none-if (B.unrolls d f.body) (flat_map (λ (o : Place × ℕ). (B.function_flow d f).early o.0) (B.owed d f)) is;
  local = none-if (B.unrolls d f.body) (B.function_flow d f).unset is;
}

-- the token of E703
pub long-least : (d : Design) (s : Stmt) (l : Loops) (at : ℕ) (r : Option ℕ) → IsLoops d s l → r ≡ long_token l at → IsLeastToken (B.too_long d s at) r
long-least d s l at r is same = subst (λ ts. IsLeastToken ts r) (sym (is.too_long at)) (subst (IsLeastToken (B.only_if l.too_long (at ∷ []))) (sym same) (by l.too_long))
  where
    by : (b : Bool) → IsLeastToken (B.only_if b (at ∷ [])) (cond b (Some at) None)
    by true = record { there = inl refl; least = λ u m. elim m [ inl is ↦ omega (arith, is) | inr none ↦ elim none [ ] ] }
    by false = λ t m. elim m [ ]
