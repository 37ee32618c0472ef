-- A small design and its target, by the definitions:
--     module t(input clk, input a, output logic q, output logic y);
--       logic n;
--       assign y = a ^ q;
--       always_comb if (a) n = ~q; else begin n = q; end
--       always_ff @(posedge clk) q <= n;
--     endmodule
use Rattle.std.proofs.Common.{◌≡◌, ℕ, ◌==◌, true, false, ◌||◌, List, [], ◌∷◌, ◌++◌, codes, Some, None, ap, ◌∙◌, if◌then◌else◌}
use Rattle.b4_core.specs.declared.bit.Bit4.{Bit4}
use Rattle.b4_core.specs.declared.bit.Bit4.TheVariants.{Zero, One, X}
use Rattle.b4_core.specs.declared.operators.BinOp.TheVariants.{Xor}
use Rattle.row_machine.specs.Valuation.{Place, Valuation}
use Rattle.row_machine.specs.Steps.{begun}
use Rattle.sv_core.specs.declared.design.SignalKind.{SignalKind}
use Rattle.sv_core.specs.declared.design.SignalKind.TheVariants.{InputNet, OutputVar, Variable}
use Rattle.sv_core.specs.declared.design.Signal.{Signal}
use Rattle.sv_core.specs.declared.design.Primary.TheVariants as P
use Rattle.sv_core.specs.declared.design.Operand.{Operand}
use Rattle.sv_core.specs.declared.design.Expr.{Expr}
use Rattle.sv_core.specs.declared.design.Expr.TheVariants.{Single, Binary}
use Rattle.sv_core.specs.declared.design.EdgeOn.{EdgeOn}
use Rattle.sv_core.specs.declared.design.ProcessKind.TheVariants.{Continuous, Comb, Edges}
use Rattle.sv_core.specs.declared.design.Process.{Process}
use Rattle.sv_core.specs.declared.design.Stmt.{Stmt}
use Rattle.sv_core.specs.declared.design.Stmt.TheVariants as S
use Rattle.sv_core.specs.Statements.{Doing, sequence, choice, assignment, stmt_doing, doing}
use Rattle.sv_core.specs.Machine.{edge_process}
use Rattle.v_tree.specs.Names.{Name}
use Rattle.v_tree.specs.declared.operators.VBinaryOp.TheVariants as W
use Rattle.v_tree.specs.declared.operators.VUnaryOp.TheVariants.{Not}
use Rattle.v_tree.specs.declared.expressions.VExpr.{VExpr}
use Rattle.v_tree.specs.declared.expressions.VExpr.TheVariants as E
use Rattle.v_tree.specs.declared.statements.VBranch.{VBranch}
use Rattle.v_tree.specs.declared.statements.VBranch.TheVariants.{Statement, Empty}
use Rattle.v_tree.specs.declared.statements.VStmt.{VStmt}
use Rattle.v_tree.specs.declared.statements.VStmt.TheVariants as V
use Rattle.v_tree.specs.declared.items.VSensitivity.TheVariants as On
use Rattle.v_tree.specs.declared.items.VSignal.TheVariants as D
use Rattle.v_tree.specs.declared.items.VProcess.TheVariants.{Assign, Always}
use Rattle.v_tree.specs.declared.items.VItem.{VItem}
use Rattle.v_tree.specs.declared.items.VItem.TheVariants as I
use Rattle.lower_design.specs.Lowered.{branch, driver_in, drives_in, process_by, declarations, trigger_items, lowered_level, lowered_stmt, lowered_items, reads_trigger, triggered, whole_name, whole_target}
use Rattle.lower_design.proofs.Levels.{block-level, either-level, assign-level, assign-out, lines-assign, lines-block, lines-if}

abbrev clk : Name
clk = codes "clk"

abbrev a : Name
a = codes "a"

abbrev q : Name
q = codes "q"

abbrev y : Name
y = codes "y"

abbrev n : Name
n = codes "n"

abbrev signal : Name → SignalKind → Signal
signal path kind = record { path = path; width = 1; kind = kind }

abbrev signals : List Signal
signals = signal clk InputNet ∷ signal a InputNet ∷ signal q OutputVar ∷ signal y OutputVar ∷ signal n Variable ∷ []

abbrev plain : ℕ → Operand
plain k = record { inverted = false; primary = P.Signal k }

abbrev inverted : ℕ → Operand
inverted k = record { inverted = true; primary = P.Signal k }

-- y = a ^ q
abbrev driven : Expr
driven = Binary Xor (plain 1) (plain 2)

-- n = ~q, and n = q
abbrev set_inverted : Stmt
set_inverted = S.Assign 4 (Single (inverted 2)) false

abbrev set_plain : Stmt
set_plain = S.Assign 4 (Single (plain 2)) false

abbrev decides : Stmt
decides = S.If (Single (plain 1)) set_inverted (Some (S.Block (set_plain ∷ [])))

-- q <= n
abbrev keeps : Stmt
keeps = S.Assign 2 (Single (plain 4)) true

abbrev edges : List EdgeOn
edges = record { signal = 0; rising = true } ∷ []

abbrev processes : List Process
processes =
    record { kind = Continuous; body = S.Assign 3 driven false } ∷ record { kind = Comb; body = decides } ∷ record { kind = Edges edges; body = keeps } ∷ []

-- what the `always_comb` reads and writes
decides-is : doing decides ≡ choice (Single (plain 1)) (assignment 4 (Single (inverted 2)) false) (sequence (assignment 4 (Single (plain 2)) false ∷ []))
decides-is =
    either-level Doing stmt_doing (Single (plain 1)) set_inverted (S.Block (set_plain ∷ []))
    ∙ (λ i. choice (Single (plain 1)) (assign-level Doing stmt_doing 4 (Single (inverted 2)) false i)
    ((block-level Doing stmt_doing (set_plain ∷ []) ∙ (λ j. sequence (assign-level Doing stmt_doing 4 (Single (plain 2)) false j ∷ []))) i))

reads : (doing decides).reads ≡ 1 ∷ 2 ∷ 2 ∷ []
reads = ap (λ (d : Doing). d.reads) decides-is

targets : (doing decides).targets ≡ 4 ∷ 4 ∷ []
targets = ap (λ (d : Doing). d.targets) decides-is

-- a valuation by what `a`, `q` and `n` hold
abbrev holding : Bit4 → Bit4 → Bit4 → Valuation
holding at_a at_q at_n p = if p.signal == 1 then at_a else (if p.signal == 2 then at_q else (if p.signal == 4 then at_n else X))

abbrev bit_of : ℕ → Place
bit_of k = record { signal = k; bit = 0 }

-- where `a` is 1 it writes the inverse of `q`
true-branch : ((doing decides).run signals (begun (holding One Zero X))).written (bit_of 4) ≡ Some One
true-branch = ap (λ (d : Doing). (d.run signals (begun (holding One Zero X))).written (bit_of 4)) decides-is

-- and where it is unknown the other branch runs
unknown-branch : ((doing decides).run signals (begun (holding X Zero X))).written (bit_of 4) ≡ Some Zero
unknown-branch = ap (λ (d : Doing). (d.run signals (begun (holding X Zero X))).written (bit_of 4)) decides-is

-- the `always_ff` leaves `q` alone in its run, and its update is pending
keeps-is : doing keeps ≡ assignment 2 (Single (plain 4)) true
keeps-is = assign-level Doing stmt_doing 2 (Single (plain 4)) true

updates : (edge_process signals edges keeps).updates (holding Zero Zero One) (bit_of 2) ≡ Some One
updates = ap (λ (d : Doing). (d.run signals (begun (holding Zero Zero One))).pending (bit_of 2)) keeps-is

unwritten : ((doing keeps).run signals (begun (holding Zero Zero One))).written (bit_of 2) ≡ None
unwritten = ap (λ (d : Doing). (d.run signals (begun (holding Zero Zero One))).written (bit_of 2)) keeps-is

-- `begin n = ..; end`
abbrev sets : VExpr → VStmt
sets value = V.Assign (whole_target n) value false

abbrev read : Name → VExpr
read name = E.Prim (whole_name name)

abbrev first_block : VBranch
first_block = Statement (V.Block None (sets (E.Unary Not (whole_name q)) ∷ []))

abbrev second_block : VBranch
second_block = Statement (V.Block None (sets (read q) ∷ []))

abbrev if_line : VStmt
if_line = V.If (read a) first_block (Some second_block)

-- each branch of the target's `if` is a block
decides-lowered : lowered_stmt signals decides ≡ if_line
decides-lowered =
    either-level VStmt (lowered_level signals) (Single (plain 1)) set_inverted (S.Block (set_plain ∷ []))
    ∙ (λ i. V.If (read a) (first i) (Some (second i)))
  where
    first : branch (lowered_stmt signals set_inverted) ≡ first_block
    first =
        ap branch (assign-level VStmt (lowered_level signals) 4 (Single (inverted 2)) false)
        ∙ ap (λ ss. Statement (V.Block None ss)) (lines-assign (whole_target n) (E.Unary Not (whole_name q)) false)

    second : branch (lowered_stmt signals (S.Block (set_plain ∷ []))) ≡ second_block
    second =
        ap branch (block-level VStmt (lowered_level signals) (set_plain ∷ []))
        ∙ ap (λ ss. Statement (V.Block None ss)) (lines-block (lowered_stmt signals set_plain ∷ []))
        ∙ (λ i. Statement (V.Block None (assign-level VStmt (lowered_level signals) 4 (Single (plain 2)) false i ∷ [])))

-- the whole target
abbrev items : List VItem
items =
    I.Signal (D.Input None clk) ∷ I.Signal (D.Input None a) ∷ I.Signal (D.OutputReg None q None) ∷ I.Signal (D.Output None y) ∷ I.Signal (D.Reg None n None)
    ∷ I.Signal (D.Reg None (codes "sv2v_t") None) ∷ I.Initial (record { name = codes "sv2v_t"; value = Zero ∷ [] })
    ∷ I.Process (Assign (whole_target y) (E.Binary W.Xor (whole_name a) (whole_name q)))
    ∷ I.Process (Always On.Star (Statement (V.Block None (V.If (read (codes "sv2v_t")) Empty None ∷ if_line ∷ []))))
    ∷ I.Process (Always (On.Edges (record { rising = true; name = clk } ∷ [])) (Statement (V.Block None (V.Assign (whole_target q) (read n) true ∷ []))))
    ∷ []

all-items : lowered_items signals processes ≡ items
all-items =
    (λ i. (declarations (λ k. drives_in k (assign-out 3 driven false i) || (false || (false || false))) 0 signals ++ trigger_items true)
    ++ (I.Process (driver_in signals (assign-out 3 driven false i)) ∷ I.Process (comb i) ∷ I.Process (edge i) ∷ []))
  where
    comb : process_by signals Comb decides ≡ Always On.Star (Statement (V.Block None (reads_trigger ∷ if_line ∷ [])))
    comb = ap (λ s. Always On.Star (triggered s)) decides-lowered ∙ ap (λ ss. Always On.Star (Statement (V.Block None (reads_trigger ∷ ss)))) (lines-if (read a) first_block (Some second_block))

    edge : process_by signals (Edges edges) keeps ≡ Always (On.Edges (record { rising = true; name = clk } ∷ [])) (Statement (V.Block None (V.Assign (whole_target q) (read n) true ∷ [])))
    edge =
        ap (λ s. Always (On.Edges (record { rising = true; name = clk } ∷ [])) (branch s)) (assign-level VStmt (lowered_level signals) 2 (Single (plain 4)) true)
        ∙ ap (λ ss. Always (On.Edges (record { rising = true; name = clk } ∷ [])) (Statement (V.Block None ss))) (lines-assign (whole_target q) (read n) true)
