-- What a process waits for.
use Rattle.std.proofs.Common.{◌≡◌, ℕ, suc, Bool, cond, filter, List, [], ◌∷◌, ◌++◌, map, refl, sym, ap, ◌∙◌}
use Rattle.row_machine.specs.Valuation.{Place}
use Rattle.row_machine.specs.Places.{places_of}
use Rattle.v_meaning.specs.Modules.{Signal}
use Rattle.v_meaning.specs.Machine.{size, places_from}
use Rattle.v_stores.specs.Waits.{all_places, is_named, WaitsOfNames}

same-places : (n : ℕ) (ss : List Signal) → places_from n ss ≡ all_places n (map size ss)
same-places n [] = refl
same-places n (s ∷ ss) = ap (λ qs. places_of n (size s) ++ qs) (same-places (suc n) ss)

same-filter : (f g : Place → Bool) (qs : List Place) → ((q : Place) → f q ≡ g q) → filter f qs ≡ filter g qs
same-filter f g [] h = refl
same-filter f g (q ∷ qs) h = ap (λ b. cond b (q ∷ filter f qs) (filter f qs)) (h q) ∙ ap (λ r. cond (g q) (q ∷ r) r) (same-filter f g qs h)

pub waited : WaitsOfNames
waited ss listed named h =
    same-filter (λ q. is_named named q.signal) (λ q. is_named listed q.signal) (places_from 0 ss) (λ q. sym (h q.signal)) ∙ ap (filter (λ q. is_named listed q.signal)) (same-places 0 ss)
