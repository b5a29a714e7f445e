-- What `report` answers: 1, 2, 3, 4, or the report of what was read. Assumes nothing.
use Prim.Native.Nat.{ℕ, ◌≤◌, ◌<◌}
use mathlib.Core.Logic.{inl, inr}
use mathlib.Core.Path.{◌≡◌, refl, sym, ap}
use mathlib.Core.Bool.{true, false}
use mathlib.Core.List.{List}
use lib.Dec.{ltb, leb}
use lib.ListN.{length}
use borrow.Author.Tests.{lt-ltb, le-ltb, lt-leb, le-leb, ltb-false, leb-true}
use Rattle.laws.specs.Bytes.{Bytes}
use Rattle.laws.proofs.Cases.{which}
use Rattle.dates.specs.Date.{is_date}
use Rattle.dates.proofs.Dates.{date-exact}
use Rattle.kinds.specs.Tables.{is_kind}
use Rattle.verdicts.specs.Verdicts.{outright}
use Rattle.verdicts.specs.Output.{Output, refusal, text, done_of}
use Rattle.verdicts.specs.declared.Fault.{Fault}
use Rattle.verdicts.specs.declared.Fault.TheVariants.{UnknownKind, NoDate, SmallRoom, LargeContainer}
use Rattle.container.specs.Container.{Values, Conforms, largest}
use Rattle.container.specs.Reading.{values, parsed}
use Rattle.container.proofs.Promise.{kind-exact, conforms-parsed}
use Rattle.report.specs.Report.{report_text}
use Rattle.report.specs.Calls.{report_room, report_output}
use Rattle.report.proofs.Bound.{never-over}
use Rattle.container.specs.Reading.{located}
use Rattle.container.specs.Map.{map_of}
use Rattle.container.specs.Judged.{Of, contents}
use Rattle.container.specs.declared.conforming.Conforming.{Conforming}
use Rattle.container.proofs.Lying.{read-fine}
use Rattle.std.specs.Borrow.{Bor}
use Rattle.std.specs.Prelude.{None, Ok}

-- what is told of a container that conforms is the report of what is read of its bytes
pub told-fine : (kind today : ℕ) (c : Bor (List ℕ)) → Bytes c.now → {m : Conforming} → Ok m.rows.spans ≡ map_of (located kind today c.now) → Of kind today c m
    → report_text m.kind m.today (length m.rows.bytes.now) (values (contents m)) ≡ report_text kind today (length c.now) (parsed kind today c.now)
told-fine kind today c b {m} e o = rw (o.kind_is, o.today_is, o.bytes_are) (ap (report_text kind today (length c.now)) (sym (read-fine kind today c.now e b)))

module _ (kind today : ℕ) (c : List ℕ) (room : ℕ) where
  pub report-1 : is_kind kind ≡ false → report_output kind today c room ≡ refusal (outright UnknownKind)
  unfolding report_output
  report-1 k = rw k

  module _ (k : is_kind kind ≡ true) where
    pub report-2 : is_date today ≡ false → report_output kind today c room ≡ refusal (outright NoDate)
    unfolding report_output
    report-2 d = rw (k, d)

    module _ (d : is_date today ≡ true) where
      pub report-3 : room < report_room → report_output kind today c room ≡ refusal (outright SmallRoom)
      unfolding report_output
      report-3 l = rw (k, d, lt-ltb _ _ l)

      module _ (l : report_room ≤ room) where
        pub report-4 : largest < length c → report_output kind today c room ≡ refusal (outright LargeContainer)
        unfolding report_output
        report-4 g = rw (k, d, le-ltb _ _ l, lt-leb _ _ g)

        module _ (g : length c ≤ largest) where
          pub report-0 : report_output kind today c room ≡ text (report_text kind today (length c) (parsed kind today c))
          unfolding report_output
          report-0 = rw (k, d, le-ltb _ _ l, le-leb _ _ g)

  -- of a container that conforms, the report of its values
  pub conforming-output : Bytes c → (vs : Values) → Conforms kind today vs c → report_room ≤ room → report_output kind today c room ≡ text (report_text kind today (length c) (values vs))
  conforming-output b vs h l =
      rw (conforms-parsed kind today c b vs h) at (report-0 ((kind-exact kind).1 h.kind_is) ((date-exact today).1 h.date_is) l h.size_is)

  -- all that a call can answer: a refusal without a place and a tag, or a whole report in a room that takes every one
  pub report-cases : (P : Output → Type 0) → ((f : Fault) → P (refusal (outright f))) → ((t : List ℕ) → report_room ≤ room → length t ≤ report_room → P (text t))
      → P (report_output kind today c room)
  unfolding report_output
  report-cases P refuse give =
      elim (which (is_kind kind)) [
        | inl k ↦
            elim (which (is_date today)) [
              | inl d ↦
                  elim (which (ltb room report_room)) [
                    | inl l ↦ rw (k, d, l) (refuse SmallRoom)
                    | inr l ↦
                        elim (which (leb (length c) largest)) [
                          | inl g ↦ rw (k, d, l, g) (give _ (ltb-false _ _ l) (never-over kind today c ((kind-exact kind).0 k) (leb-true _ _ g)))
                          | inr g ↦ rw (k, d, l, g) (refuse LargeContainer)
                        ]
                  ]
              | inr d ↦ rw (k, d) (refuse NoDate)
            ]
        | inr k ↦ rw k (refuse UnknownKind)
      ]

-- so its own answer names no place and no tag
pub names_nothing : (kind today : ℕ) (c : List ℕ) (room : ℕ) → let d = done_of (report_output kind today c room) in (d.place ≡ 0) × (d.tag ≡ None)
names_nothing kind today c room = report-cases kind today c room (λ o. ((done_of o).place ≡ 0) × ((done_of o).tag ≡ None)) (λ f. (refl, refl)) (λ t l s. (refl, refl))
