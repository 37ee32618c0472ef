-- Steps of loops over selects.
use Rattle.std.proofs.Common.{◌≡◌, List, ◌∷◌, None, ap, ◌∙◌}
use Rattle.v_meaning.specs.Selects.{Path, SelMeaning, select, width_from}

pub width-next : (s t : SelMeaning) (ss : List SelMeaning) (p q : Path) → q ≡ select s None p → select s None p ≡ select t None p → width_from ss q ≡ width_from (t ∷ ss) p
width-next s t ss p q is same = ap (width_from ss) (is ∙ same)

pub ruleset widths = (width-next)
