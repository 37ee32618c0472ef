-- The least token of both rules on a body's loops.
use Rattle.std.proofs.Common.{◌≡◌, inl, inr, ℕ, min, Bool, ◌&&◌, not, List, [], ◌∷◌, ◌++◌, Option, Some, None, refl, arith, ap, sym, ◌∙◌, subst}
use Rattle.std.specs.Prelude.{is_some}
use Rattle.std.proofs.lemmas.Bool.{cases_lt}
use Rattle.row_machine.proofs.Members.{append-member, member-front, member-back}
use Rattle.sv_types.specs.declared.design.Design.{Design}
use Rattle.sv_types.specs.declared.statement.Stmt.{Stmt}
use Rattle.design_breaks.specs.declared.Unrolled.{Unrolled}
use Rattle.design_breaks.specs.Indices.{lesser}
use Rattle.design_breaks.specs.Breaks as B
use Rattle.least_breaks.specs.Least.{IsLeastToken, IsLeastTokenAt}
use Rattle.proc_rules.specs.Processes.{IsLoops}

in-either : (xs ys : List ℕ) (t u : ℕ) → IsLeastTokenAt xs t → IsLeastTokenAt ys u → IsLeastTokenAt (xs ++ ys) (min t u)
in-either xs ys t u h g = elim (cases_lt u t) [
  | inl lower ↦ (let same : min t u ≡ u = omega (arith, lower) in subst (IsLeastTokenAt (xs ++ ys)) (sym same) (record {
    there = member-back xs ys u g.there;
    least = λ v m. elim (append-member xs ys v m) [
      | inl front ↦ (let le = h.least v front in omega (arith, le, lower))
      | inr back ↦ g.least v back
    ];
  }))
  | inr higher ↦ (let same : min t u ≡ t = omega (arith, higher) in subst (IsLeastTokenAt (xs ++ ys)) (sym same) (record {
    there = member-front xs ys t h.there;
    least = λ v m. elim (append-member xs ys v m) [
      | inl front ↦ h.least v front
      | inr back ↦ (let le = g.least v back in omega (arith, le, higher))
    ];
  }))
]

both-least : (xs ys : List ℕ) (a b : Option ℕ) → IsLeastToken xs a → IsLeastToken ys b → IsLeastToken (xs ++ ys) (lesser a b)
both-least xs ys None None h g = λ t m. elim (append-member xs ys t m) [ inl front ↦ h t front | inr back ↦ g t back ]
both-least xs ys None (Some u) h g = record {
  there = member-back xs ys u g.there;
  least = λ v m. elim (append-member xs ys v m) [ inl front ↦ absurd (h v front) | inr back ↦ g.least v back ];
}
both-least xs ys (Some t) None h g = record {
  there = member-front xs ys t h.there;
  least = λ v m. elim (append-member xs ys v m) [ inl front ↦ h.least v front | inr back ↦ absurd (g v back) ];
}
both-least xs ys (Some t) (Some u) h g = in-either xs ys t u h g

endless-least : (u : Unrolled) → IsLeastToken (B.endless_at u) u.endless
endless-least u = by u.endless
  where
    tokens : Option ℕ → List ℕ
    tokens o = elim o [ None ↦ [] | Some at ↦ at ∷ [] ]

    by : (o : Option ℕ) → IsLeastToken (tokens o) o
    by None = λ t m. elim m [ ]
    by (Some at) = record { there = inl refl; least = λ v m. elim m [ inl is ↦ omega (arith, is) | inr none ↦ elim none [ ] ] }

-- whether there is none
none-is : (ts : List ℕ) (o : Option ℕ) → IsLeastToken ts o → B.is_none ts ≡ not (is_some o)
none-is [] None h = refl
none-is (t ∷ ts) None h = absurd (h t (inl refl))
none-is [] (Some t) h = elim h.there [ ]
none-is (u ∷ ts) (Some t) h = refl

pub loops-are : (d : Design) (s : Stmt) (o endless : Option ℕ) (long : Bool) (u : Unrolled) → IsLeastToken (B.unbounded_of d s) o → u ≡ B.unrolled d s → endless ≡ lesser o u.endless
    → long ≡ (not (is_some o) && not (is_some u.left)) → IsLoops d s (record { endless = endless; too_long = long })
loops-are d s o endless long u least is token many = record {
  endless = subst (IsLeastToken (B.endless_of d s)) (sym token) (subst (λ (v : Unrolled). IsLeastToken (B.unbounded_of d s ++ B.endless_at v) (lesser o u.endless)) is (both-least (B.unbounded_of d s) (B.endless_at u) o u.endless least (endless-least u)));
  too_long = λ at. ap (λ b. B.only_if b (at ∷ [])) ((λ i. none-is (B.unbounded_of d s) o least i && not (is_some (sym is i).left)) ∙ sym many);
}
