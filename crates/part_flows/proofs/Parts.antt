-- Flows of conditions, assignments and locals.
use Rattle.std.specs.Prelude.{IfOk, OnOk}
use Rattle.std.proofs.Common.{Option, Result, Ok, Err, ◌≡◌, ℕ, ◌^◌, ◌<◌, Bool, true, false, List, [], ◌∷◌, ◌++◌, map, length, refl, arith, ap, sym, ◌∙◌, subst}
use Rattle.b4_core.specs.declared.bit.Bit4.{Bit4}
use Rattle.row_machine.specs.Valuation.{put}
use Rattle.bit_sets.specs.declared.span.Span.{Span}
use Rattle.bit_sets.specs.declared.span.Use.{Use}
use Rattle.sv_types.specs.Surroundings as S
use Rattle.sv_types.specs.Surroundings.{Sight, Parameter, local_number}
use Rattle.sv_types.specs.Meanings.{Meaning}
use Rattle.sv_types.specs.Windows.{Window, whole, written as put_written}
use Rattle.sv_types.specs.Flows as F
use Rattle.flow_sets.specs.declared.uses.Write.{Write}
use Rattle.flow_sets.specs.declared.found.Found.{Found}
use Rattle.flow_sets.specs.Bits.{use_of, span_of, write_of, AreUses, AreWrites}
use Rattle.flow_sets.specs.Flows.{IsFlow}
use Rattle.flow_sets.proofs.Positions as P
use Rattle.eval_parts.specs.Surroundings.{now_of}
use Rattle.eval_store.specs.Writes.{LocalWritten}
use Rattle.expr_flows.specs.declared.known.Variable.{Variable}
use Rattle.part_flows.specs.Locals.{LocalHolds}
use Rattle.expr_flows.specs.Traces.{Adds}
use Rattle.expr_flows.specs.Targets.{Writes}
use Rattle.part_flows.specs.Flows.{written}

-- what was gathered from nothing
pub gathered : (start made : List Use) (us : List S.Use) → start ≡ [] → Adds start made us → AreUses made us
gathered start made us none h = record { same = h.adds ∙ ap (λ x. x ++ map use_of us) none; short = h.short }

pub all-written : (start made : List Write) (ws : List S.Write) → start ≡ [] → Writes start made ws → AreWrites made ws
all-written start made ws none h = record { same = h.adds ∙ ap (λ x. x ++ map write_of ws) none; short = h.short }

-- an assignment
pub assigning-is : (later : Bool) (to : List Meaning) (value : Meaning) (k : Sight) → written later (F.all_indices to k ++ value.reads k) (F.all_writes to k) ≡ F.assigning later to value k
assigning-is false to value k = refl
assigning-is true to value k = refl

-- a local that is written whole
whole-use : (local width : ℕ) (marks : List Bool) (s : Span) → length marks ≡ width → s ≡ span_of (record { number = local_number local; low = 0; high = width; at = 0 }) → record { span = s; at = 0 } ≡ use_of (F.whole_local local marks)
whole-use local width marks s long is =
    ap (λ (x : Span). record { span = x; at = 0 }) (is ∙ ap (λ (n : ℕ). span_of (record { number = local_number local; low = 0; high = n; at = 0 })) (sym long))

pub local-written : (local width : ℕ) (marks : List Bool) (s : Span) (ws : List Write) → length marks ≡ width → width < 2 ^ 32 → s ≡ span_of (record { number = local_number local; low = 0; high = width; at = 0 }) → ws ≡ record { of = record { span = s; at = 0 }; exact = true } ∷ []
    → AreWrites ws (record { of = F.whole_local local marks; exact = true } ∷ [])
local-written local width marks s ws long few is made = record {
  same = made ∙ ap (λ (u : Use). record { of = u; exact = true } ∷ []) (whole-use local width marks s long is);
  short = P.short-from (F.whole_local local marks) [] (omega arith) P.short-none;
}

-- reads, and then writes
pub if-ok : {A E : Type 0} (r : Result A E) (P Q : A → Type 0) → ((x : A) → P x → Q x) → IfOk r P → IfOk r Q
if-ok (Ok x) P Q f h = f x h
if-ok (Err e) P Q f h = tt

pub written-later : {E : Type 0} (r : Result Found E) (first then_ : Found) (later : Bool) (reads : List Use) (writes : List Write) → later ≡ true → ((us : List S.Use) → AreUses reads us → IsFlow first (F.reading us))
    → ((ws : List S.Write) → AreWrites writes ws → IsFlow then_ (F.writing_later ws)) → IfOk r (λ x. (f g : F.Flow) → IsFlow first f → IsFlow then_ g → IsFlow x (F.and_then f g))
    → IfOk r (λ x. (us : List S.Use) (ws : List S.Write) → AreUses reads us → AreWrites writes ws → IsFlow x (written later us ws))
written-later r first then_ later reads writes is one two h =
    if-ok r _ _ (λ x both us ws a b. subst (λ l. IsFlow x (written l us ws)) (sym is) (both (F.reading us) (F.writing_later ws) (one us a) (two ws b))) h

pub written-now : {E : Type 0} (r : Result Found E) (first then_ : Found) (later : Bool) (reads : List Use) (writes : List Write) → later ≡ false → ((us : List S.Use) → AreUses reads us → IsFlow first (F.reading us))
    → ((ws : List S.Write) → AreWrites writes ws → IsFlow then_ (F.writing ws)) → IfOk r (λ x. (f g : F.Flow) → IsFlow first f → IsFlow then_ g → IsFlow x (F.and_then f g))
    → IfOk r (λ x. (us : List S.Use) (ws : List S.Write) → AreUses reads us → AreWrites writes ws → IsFlow x (written later us ws))
written-now r first then_ later reads writes is one two h =
    if-ok r _ _ (λ x both us ws a b. subst (λ l. IsFlow x (written l us ws)) (sym is) (both (F.reading us) (F.writing ws) (one us a) (two ws b))) h

-- a local that holds bits
pub holds : {E : Type 0} (r : Result (Unit {0}) E) (v : Variable) (bits : List Bit4) (old new : List (Option (List Bit4))) (path : Window) → path ≡ whole v.width → OnOk r (LocalWritten old new v.local path bits) → OnOk r (LocalHolds v bits old new)
holds r v bits old new path is h =
    if-ok r _ _ (λ x written signals. subst (λ p. now_of signals new ≡ put (put_written (local_number v.local) p bits) (now_of signals old)) is (written.now signals)) h
