-- What comes next, with its list.
use Rattle.std.proofs.Common.{◌≡◌, List, [], ◌∷◌, Option, slice_get, false, refl, sym, ap, ◌∙◌, subst, MatchOption}
use Rattle.sv_macro.specs.Waiting.{comings, Marked, Tops, stops, waiting, first_list}
use Rattle.sv_macro.specs.declared.coming.Coming.{Coming}
use Rattle.sv_macro.specs.declared.pending.Item.{Item}

-- the topmost item
pub topmost : (items : List Item) (o : Option Item) → o ≡ slice_get items 0 → Marked items → MatchOption o (comings items ≡ []) (λ top. Tops top (comings items))
topmost [] o e m = rw e refl
topmost (i ∷ is) o e m = rw e (record { is = refl; list = m.0 })

-- one more item
pub one_more : (items more : List Item) (coming : List Coming) (item : Item) → coming ≡ comings items → more ≡ item ∷ items → Marked items →
    (stops item.what ≡ false → item.list ≡ first_list (waiting coming)) → Marked more
one_more items more coming item e is m list = subst Marked (sym is) (λ s. list s ∙ ap (λ (c : List Coming). first_list (waiting c)) e, m)
