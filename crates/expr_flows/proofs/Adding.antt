-- Uses that are added behind others.
use Rattle.std.proofs.Common.{◌≡◌, ◌^◌, ◌<◌, List, [], ◌∷◌, ◌++◌, map, refl, ap, sym, ◌∙◌, subst, append_assoc, append-nil}
use Rattle.bit_sets.specs.declared.span.Use.{Use}
use Rattle.sv_types.specs.Surroundings as S
use Rattle.flow_sets.specs.Bits.{use_of}
use Rattle.flow_sets.proofs.Positions as P
use Rattle.expr_flows.specs.Traces.{Adds}

pub none : (us : List Use) → Adds us us []
none us = record { adds = sym (append-nil us); short = P.short-none }

pub one : (old new : List Use) (u : Use) (v : S.Use) → new ≡ old ++ u ∷ [] → u ≡ use_of v → v.high < 2 ^ 32 → Adds old new (v ∷ [])
one old new u v is same short = record { adds = is ∙ ap (λ x. old ++ x ∷ []) same; short = P.short-from v [] short P.short-none }

map-both : (us vs : List S.Use) → map use_of us ++ map use_of vs ≡ map use_of (us ++ vs)
map-both [] vs = refl
map-both (u ∷ us) vs = ap (λ xs. use_of u ∷ xs) (map-both us vs)

pub both : (a b c : List Use) (us vs : List S.Use) → Adds a b us → Adds b c vs → Adds a c (us ++ vs)
both a b c us vs h g = record {
  adds = g.adds ∙ ap (λ x. x ++ map use_of vs) h.adds ∙ append_assoc a (map use_of us) (map use_of vs) ∙ ap (λ x. a ++ x) (map-both us vs);
  short = P.short-append us vs h.short g.short;
}

-- what was gathered apart
pub behind : (old new made : List Use) (us : List S.Use) → new ≡ old ++ made → Adds [] made us → Adds old new us
behind old new made us is h = record { adds = is ∙ ap (λ x. old ++ x) h.adds; short = h.short }

pub at : (old new : List Use) (us vs : List S.Use) → us ≡ vs → Adds old new us → Adds old new vs
at old new us vs is h = subst (Adds old new) is h
