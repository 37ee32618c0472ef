-- Blocks by their parts, from the last one on.
use Rattle.std.proofs.Common.{◌≡◌, List, [], ◌∷◌, ◌++◌, map, reverse, refl, sym, ap, ◌∙◌, subst, append_assoc}
use Rattle.std.proofs.lemmas.List.{reverse-append, reverse-reverse}
use Rattle.sv_types.specs.declared.statement.Local.{Local}
use Rattle.sv_types.specs.declared.statement.Stmt.{Stmt}
use Rattle.sv_types.specs.declared.statement.Stmt.TheVariants as S
use Rattle.expr_type.specs.Statements as D
use Rattle.stmt_types.specs.declared.blocks.BlockPart.{BlockPart}
use Rattle.stmt_types.specs.Blocks.{block_stmt, built_of, built_on, nothing_built, part_built, part_of}

-- one more local is taken from the end
pub local-turn : (made rest : List Local) (l : Local) → (made ++ l ∷ []) ++ reverse rest ≡ made ++ reverse (rest ++ l ∷ [])
local-turn made rest l = append_assoc made (l ∷ []) (reverse rest) ∙ ap (λ (ls : List Local). made ++ ls) (sym (reverse-append rest (l ∷ [])))

pub ruleset locals = (local-turn)

-- what stands behind a statement
none-reversed : (ls : List Local) → reverse ls ≡ [] → ls ≡ []
none-reversed ls h = sym (reverse-reverse ls) ∙ ap reverse h

some-in : (rs : List Local) (body : List Stmt) → (rs ≡ [] → ⊥) → S.Block rs body ∷ [] ≡ D.in_block rs body
some-in [] body h = absurd (h refl)
some-in (r ∷ rs) body h = refl

pub some-behind : (ls : List Local) (body : List Stmt) → (ls ≡ [] → ⊥) → S.Block (reverse ls) body ∷ [] ≡ D.in_block (reverse ls) body
some-behind ls body h = some-in (reverse ls) body (λ e. h (none-reversed ls e))

pub none-behind : (ls : List Local) (body : List Stmt) → ls ≡ [] → body ≡ D.in_block (reverse ls) body
none-behind ls body h = ap (λ (rs : List Local). D.in_block (reverse rs) body) (sym h)

pub ruleset behinds = (some-behind, none-behind)

-- one more statement or locals in front
pub statement-first : (body : List Stmt) (s : Stmt) → reverse (body ++ s ∷ []) ≡ s ∷ reverse body
statement-first body s = reverse-append body (s ∷ [])

pub locals-first : (ls before : List Local) → reverse (ls ++ reverse before) ≡ before ++ reverse ls
locals-first ls before = reverse-append ls (reverse before) ∙ ap (λ (rs : List Local). rs ++ reverse ls) (reverse-reverse before)

pub ruleset parts = (statement-first, locals-first)

-- one more part is taken from the end
pub built-turn : (rest : List BlockPart) (p : BlockPart) (b : D.Block) → built_on (rest ++ p ∷ []) b ≡ built_on rest (part_built p b)
built-turn [] p b = refl
built-turn (q ∷ rest) p b = ap (part_built q) (built-turn rest p b)

pub ruleset built = (built-turn)

-- a block without the names that are declared in it
pub built-is : (ps : List D.BlockPart) → D.built ps ≡ built_of (map part_of ps)
built-is [] = refl
built-is (D.IsStatement s ∷ ps) = ap (part_built (part_of (D.IsStatement s))) (built-is ps)
built-is (D.IsDeclared d ∷ ps) = ap (part_built (part_of (D.IsDeclared d))) (built-is ps)
