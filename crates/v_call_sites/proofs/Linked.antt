-- Calls lead where links do, where the calls from each number are the links of its name and what has no number has no links.
use Rattle.std.proofs.Common.{◌≡◌, ℕ, zero, suc, ◌==◌, Bool, true, false, ◌||◌, List, [], length, Option, Some, None, refl, sym, ap, ◌∙◌, arith}
use Rattle.std.specs.List.{list_any}
use Rattle.std.specs.Str.{bytes_eq}
use Rattle.std.proofs.lemmas.Bool.{false≢true, eq-eqb, eqb-true, false_from_ne_true}
use Rattle.call_circles.specs.declared.calls.Call.{Call}
use Rattle.call_circles.specs.Calls.{goes_to, reaches, enough, leads_to}
use Rattle.call_circles.proofs.Reaching.{reaches-more}
use Rattle.v_tree.specs.Names.{Name}
use Rattle.v_tree.specs.Rules.{Link, links_of, leads}
use Rattle.v_circles.proofs.Shortest.{names-equal, same-name, leads-short, reaches-short}

same_tests : (a b : Bool) → (a ≡ true → b ≡ true) → (b ≡ true → a ≡ true) → a ≡ b
same_tests true b f g = sym (f refl)
same_tests false b f g = sym (false_from_ne_true b (λ e. false≢true (g e)))

some-one : (o : Option ℕ) (x y : ℕ) → o ≡ Some x → o ≡ Some y → x ≡ y
some-one o x y e f = cc

-- what holds of a number, if there is one
abbrev pub known : (ℕ → Bool) → Option ℕ → Bool
known f None = false
known f (Some x) = f x

module _ (ls : List Link) (cs : List Call) (number : Name → Option ℕ) (one : (a b : Name) (k : ℕ) → number a ≡ Some k → number b ≡ Some k → a ≡ b)
    (calls_are : (f : ℕ → Bool) (a : Name) (r : ℕ) → number a ≡ Some r → list_any (goes_to f r) cs ≡ list_any (λ c. known f (number c)) (links_of ls a))
    (unlinked : (c : Name) → number c ≡ None → links_of ls c ≡ []) where
  same-ends : (a b : Name) (x y : ℕ) → number a ≡ Some x → number b ≡ Some y → (x == y) ≡ bytes_eq a b
  same-ends a b x y e f =
      same_tests (x == y) (bytes_eq a b)
      (λ t. ap (bytes_eq a) (sym (one a b y (e ∙ ap Some (eqb-true x y t)) f)) ∙ same-name a)
      (λ t. eq-eqb x y (some-one (number a) x y e (ap number (names-equal a b t) ∙ f)))

  differ-ends : (c b : Name) (y : ℕ) → number c ≡ None → number b ≡ Some y → bytes_eq c b ≡ false
  differ-ends c b y e f = false_from_ne_true (bytes_eq c b) (λ t. let none : None ≡ Some y = sym e ∙ ap number (names-equal c b t) ∙ f in cc)

  -- what has no number leads to nothing that has one
  pub leads-nowhere : (k : ℕ) (c b : Name) (y : ℕ) → number c ≡ None → number b ≡ Some y → leads k ls c b ≡ false
  leads-nowhere zero c b y e f = differ-ends c b y e f
  leads-nowhere (suc k) c b y e f = λ i. differ-ends c b y e f i || list_any (λ n. leads k ls n b) (unlinked c e i)

  known-leads : (k : ℕ) (c b : Name) (y : ℕ) (o : Option ℕ) → number c ≡ o → number b ≡ Some y → ((x : ℕ) → number c ≡ Some x → reaches cs k x y ≡ leads k ls c b)
      → known (λ next. reaches cs k next y) o ≡ leads k ls c b
  known-leads k c b y None e f h = sym (leads-nowhere k c b y e f)
  known-leads k c b y (Some x) e f h = h x e

  reaches-leads : (k : ℕ) (a b : Name) (x y : ℕ) → number a ≡ Some x → number b ≡ Some y → reaches cs k x y ≡ leads k ls a b
  reaches-leads zero a b x y e f = same-ends a b x y e f
  reaches-leads (suc k) a b x y e f =
      (λ i. same-ends a b x y e f i || calls_are (λ next. reaches cs k next y) a x e i)
      ∙ (λ i. bytes_eq a b || list_any (λ c. known-leads k c b y (number c) refl f (λ z h. reaches-leads k c b z y h f) i) (links_of ls a))

  -- a call leads back where its name does
  pub call-leads : (a b : Name) (x y : ℕ) → number a ≡ Some x → number b ≡ Some y → leads_to cs x y ≡ leads (length ls) ls a b
  call-leads a b x y e f =
      same_tests (leads_to cs x y) (leads (length ls) ls a b)
      (λ t. leads-short (enough cs) ls a b (sym (reaches-leads (enough cs) a b x y e f) ∙ t))
      (λ t. reaches-more cs (length cs) (enough cs) x y (omega arith) (reaches-short cs (length ls) x y (reaches-leads (length ls) a b x y e f ∙ t)))
