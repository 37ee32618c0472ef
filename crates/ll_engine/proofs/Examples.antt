-- Tables that are found to be of the class by computation.
use Rattle.std.proofs.Common.{ℕ, List, [], ◌∷◌, Bool, false, refl}
use Rattle.ll_engine.specs.declared.table.Part.{Part}
use Rattle.ll_engine.specs.declared.table.Part.TheVariants.{Term, Non, Maybe, Many}
use Rattle.ll_engine.specs.declared.table.Row.{Row}
use Rattle.ll_engine.specs.Class.{IsFit}
use Rattle.ll_engine.proofs.class.Sets.{fits_is}

abbrev row : ℕ → List Part → Bool → Row
row h ps d = record { head = h; parts = ps; deep = d }

-- a module of assignments: `module` name, ports, and items `assign` name `=` expression
abbrev assignments : List Row
assignments =
    row 0 (Term 0 ∷ Term 1 ∷ Maybe 1 ∷ Term 2 ∷ Many 4 ∷ Term 3 ∷ []) false
    ∷ row 1 (Term 4 ∷ Maybe 2 ∷ Term 5 ∷ []) false
    ∷ row 2 (Non 3 ∷ Many 9 ∷ []) false
    ∷ row 3 (Non 10 ∷ Term 6 ∷ Maybe 11 ∷ Term 1 ∷ []) false
    ∷ row 3 (Term 1 ∷ []) false
    ∷ row 9 (Term 7 ∷ Non 3 ∷ []) false
    ∷ row 10 (Term 8 ∷ []) false
    ∷ row 10 (Term 9 ∷ []) false
    ∷ row 11 (Term 10 ∷ Term 11 ∷ Term 12 ∷ Term 11 ∷ Term 13 ∷ []) false
    ∷ row 4 (Term 14 ∷ Term 1 ∷ Term 15 ∷ Non 5 ∷ Term 2 ∷ []) false
    ∷ row 5 (Non 6 ∷ Maybe 12 ∷ []) false
    ∷ row 12 (Non 13 ∷ Non 6 ∷ []) false
    ∷ row 13 (Term 16 ∷ []) false
    ∷ row 13 (Term 17 ∷ []) false
    ∷ row 6 (Maybe 7 ∷ Non 8 ∷ []) false
    ∷ row 7 (Term 18 ∷ []) false
    ∷ row 8 (Term 1 ∷ []) false
    ∷ row 8 (Term 11 ∷ Term 19 ∷ []) false
    ∷ []

pub assignments_fit : IsFit assignments
assignments_fit = fits_is assignments 6 14 refl
