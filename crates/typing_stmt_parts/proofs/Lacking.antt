-- Items of `case` statements that lack no memory.
use Rattle.std.proofs.Common.{◌≡◌, Bool, false, refl, sym, subst}
use Rattle.std.specs.Prelude.{Result, Ok, Err, Vec}
use Rattle.std.specs.declared.alloc.Global.{Global}
use Rattle.sv_types.specs.declared.statement.Stmt as R
use Rattle.expr_type.specs.declared.halt.Halt.{Halt}
use Rattle.expr_type.specs.declared.halt.Halt.TheVariants as H
use Rattle.expr_type.specs.declared.operand.Valued.{Valued}
use Rattle.stmt_types.specs.Lists.{listed}
use Rattle.stmt_types.specs.declared.cases.CaseFound.{CaseFound}
use Rattle.typing_stmt_parts.specs.Items.{Ends, IsItem, NotLacking, Unless}

abbrev done : Unit {0} → Result (Unit {0}) Halt
done u = Ok u

abbrev short : Halt → Result (Unit {0}) Halt
short h = Err h

-- what lacks memory
same-want : (h : Halt) → short h ≡ Err H.Memory → h ≡ H.Memory
same-want h e = cc

wants : {A : Type 0} (r : Result A Halt) (h : Halt) → NotLacking r (Err h) → h ≡ H.Memory
wants (Ok a) h n = absurd (cc)
wants (Err H.Quiet) h n = absurd (cc)
wants (Err H.Memory) h n = same-want h n
wants (Err (H.Breaks at rule)) h n = absurd (cc)

-- and what doesn't
there : {A : Type 0} (r : Result A Halt) (u : Unit {0}) → NotLacking r (Ok u) → NotLacking r (Ok tt)
there (Ok a) u n = refl
there (Err H.Quiet) u n = refl
there (Err H.Memory) u n = absurd (cc)
there (Err (H.Breaks at rule)) u n = refl

listed-there : {A : Type 0} (r : Result (Vec A Global) Halt) (u : Unit {0}) → NotLacking r (Ok u) → NotLacking (listed r) (Ok tt)
listed-there (Ok v) u n = refl
listed-there (Err H.Quiet) u n = refl
listed-there (Err H.Memory) u n = absurd (cc)
listed-there (Err (H.Breaks at rule)) u n = refl

-- an item whose values break a rule
abbrev ended : Result (Vec Valued Global) Halt → CaseFound
ended vs = record { is_default = false; values = vs; body = Err H.Quiet }

pub end-made : (vs : Result (Vec Valued Global) Halt) (n : Result (Unit {0}) Halt) (r : Result CaseFound Halt) → NotLacking vs n → Unless n (ended vs) r → Ends (listed vs) r
end-made vs (Ok u) r m e = subst (λ (c : Result CaseFound Halt). Ends (listed vs) c) (sym e) (refl, refl, refl, listed-there vs u m)
end-made vs (Err h) r m e = subst (λ (c : Result CaseFound Halt). Ends (listed vs) c) (sym e) (wants vs h m)

-- and one of values and a statement
abbrev item : Bool → Result (Vec Valued Global) Halt → Result R.Stmt Halt → CaseFound
item b vs s = record { is_default = b; values = vs; body = s }

pub item-made : (b : Bool) (vs : Result (Vec Valued Global) Halt) (s : Result R.Stmt Halt) (n : Result (Unit {0}) Halt) (r : Result CaseFound Halt) → NotLacking s n → Unless n (item b vs s) r → IsItem b vs s r
item-made b vs s (Ok u) r m e = subst (λ (c : Result CaseFound Halt). IsItem b vs s c) (sym e) (refl, refl, refl, there s u m)
item-made b vs s (Err h) r m e = subst (λ (c : Result CaseFound Halt). IsItem b vs s c) (sym e) (wants s h m)
