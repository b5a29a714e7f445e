-- What the second time through leaves: a row more each time, and at the end the summary. Assumes nothing.
use Prim.Native.Nat.{ℕ, zero, suc, ◌+◌, ◌-◌, ◌<◌, ◌≤◌}
use mathlib.Core.Path.{◌≡◌, refl, sym, ap, ap₂, ◌∙◌}
use mathlib.Core.Logic.{inl, inr}
use mathlib.Core.Bool.{true}
use mathlib.Core.List.{List, [], ◌∷◌, ◌++◌, append_assoc}
use native.Mathlib.Nat.{zero-add}
use native.Mathlib.Omega.{arith}
use lib.Dec.{ltb}
use lib.ListN.{length, take, drop, length-append, length-drop, length-replicate}
use lib.Seq.{length-take-le, take-append-add, take-append_seam}
use borrow.Author.Tests.{ltb-true}
use borrow.Rule.Slice.PartMut.{put_mid, mid_of, post_of, same_len_mid}
use Rattle.laws.specs.Bytes.{Bytes}
use Rattle.laws.specs.Room.{zeros, filled}
use Rattle.laws.proofs.Cases.{which}
use Rattle.laws.proofs.Rooms.{length-filled}
use Rattle.dates.specs.Date.{IsDate, is_date}
use Rattle.dates.proofs.Dates.{date-exact}
use Rattle.pieces.specs.Folder.{Entry, IsEntry}
use Rattle.verdicts.specs.Output.{Output, text as text_of, bytes_of, done_of, Leaves}
use Rattle.verdicts.specs.declared.Done.{Done}
use Rattle.container.specs.Container.{largest}
use Rattle.summary.specs.Rows.{start, whole, row_room, RowAnswers, last_text, alike, last_output}
use Rattle.summary.specs.Summary.{first_offset, row_for, rows_from, after_one, conforming, IsSummary}
use Rattle.summary.specs.declared.Rowed.{Rowed}
use Rattle.summary.specs.declared.Tally.{Tally}
use Rattle.summary.proofs.Laws.{last-0, last-most}
use Rattle.summary.proofs.Agreeing.{agrees}
use Rattle.summary.proofs.Summing.{counts as Counts-all, few-conform, rows_more, offset-more, after_more, entries-more, entry_row, row-short}
use Rattle.folder.specs.Going.{text_size, lent_of, SoFar, OneMore, Summarises}
use Rattle.folder.specs.declared.Going.{Going}

-- ---- a container that was read

abbrev pub entry : ℕ → ℕ → List ℕ → Entry
entry kind size c = record { kind = kind; bytes = whole size c }

zero-bytes : (n : ℕ) → Bytes (zeros n)
zero-bytes zero = tt
zero-bytes (suc n) = (omega arith, zero-bytes n)

module _ (kind size : ℕ) (c : List ℕ) (k : kind < 256) (s : size < 4294967296) (b : Bytes c) (l : length c ≡ lent_of size) where
  pub entry-long : length (whole size c) ≡ size
  entry-long =
      elim (which (ltb largest size)) [
        | inl h ↦ rw h (length-replicate size 0)
        | inr h ↦ rw h (rw h at l)
      ]

  pub is-entry : IsEntry (entry kind size c)
  is-entry = record { kind_is = k; length_is = rw entry-long (omega arith); bytes_are = bytes }
    where
      bytes : Bytes (whole size c)
      bytes =
          elim (which (ltb largest size)) [
            | inl h ↦ rw h (zero-bytes size)
            | inr h ↦ rw h b
          ]

  pub lends : length (whole size c) ≤ largest → whole size c ≡ c
  lends h =
      elim (which (ltb largest size)) [
        | inl q ↦ absurd (omega (arith, ltb-true largest size q, entry-long, h))
        | inr q ↦ rw q
      ]

-- ---- a row more

written : (text row : List ℕ) (at k : ℕ) → at ≤ length text → take (at + length row) (put_mid at k text (filled row k)) ≡ take at text ++ row
unfolding filled
written text row at k h =
    let before : List ℕ = take at text in
    let l : length before ≡ at = length-take-le at text h in
    let z : List ℕ = zeros (k - length row) in
    let behind : List ℕ = post_of at k text in
    ap (λ (n : ℕ). take (n + length row) (before ++ ((row ++ z) ++ behind))) (sym l)
    ∙ take-append-add before ((row ++ z) ++ behind) (length row)
    ∙ ap (λ (u : List ℕ). before ++ u) (ap (take (length row)) (append_assoc row z behind) ∙ take-append_seam row (z ++ behind))

module _ {today : ℕ} {g : Going} {text : List ℕ} (date : IsDate today) (s : SoFar today g text) (few : g.count < 256) where
  pub appended : {kind size : ℕ} {c : List ℕ} → kind < 256 → size < 4294967296 → Bytes c → length c ≡ lent_of size → {left : List ℕ} {r : Rowed} (k : ℕ) → k ≡ row_room
      → RowAnswers today kind g.offset size c g.tally (mid_of g.length k text) left r
      → OneMore today g (record { count = g.count + 1; offset = g.offset + size + 5; length = g.length + r.length; tally = r.tally }) (put_mid g.length k text left)
  appended {kind} {size} {c} small fits b l {left} {r} k room a =
      record { so_far = so_far; on = refl }
    where
      before : List ℕ
      before = mid_of g.length k text

      lent-room : length before ≡ row_room
      lent-room = length-take-le k (drop g.length text) (rw length-drop (omega (arith, s.inside, few, s.size_is, room))) ∙ room

      e : Entry
      e = entry kind size c

      long : length e.bytes ≡ size
      long = entry-long kind size c small fits b l

      d : is_date today ≡ true
      d = (date-exact today).1 date

      is : IsEntry e
      is = is-entry kind size c small fits b l

      row : List ℕ
      row = row_for today g.offset e

      got : (r ≡ record { number = 0; length = length row; tally = after_one today e g.tally }) × (left ≡ filled row (length before))
      got = entry_row today g.offset e c g.tally d (lends kind size c small fits b l) before left r (omega (arith, lent-room)) (rw long a)

      short : length row ≤ row_room
      short = row-short today g.offset e d is (omega (arith, s.low, few))

      taken : r.length ≡ length row
      taken = ap (λ (r : Rowed). r.length) got.0

      left_is : left ≡ filled row k
      left_is = got.1 ∙ ap (filled row) (lent-room ∙ sym room)

      rows_are : take (g.length + r.length) (put_mid g.length k text left) ≡ rows_from today first_offset (s.es ++ e ∷ [])
      rows_are =
          ap₂ (λ (n : ℕ) (u : List ℕ). take (g.length + n) (put_mid g.length k text u)) taken left_is
          ∙ written text row g.length k (omega (arith, s.inside, few, s.size_is))
          ∙ ap₂ (λ (u : List ℕ) (o : ℕ). u ++ row_for today o e) s.rows_are s.offset_is
          ∙ sym (rows_more today first_offset s.es e)

      same_size : length (put_mid g.length k text left) ≡ length text
      same_size = same_len_mid g.length k text left (ap length left_is ∙ length-filled row k (omega (arith, short, room)) ∙ room ∙ sym lent-room)

      so_far : SoFar today (record { count = g.count + 1; offset = g.offset + size + 5; length = g.length + r.length; tally = r.tally }) (put_mid g.length k text left)
      so_far =
          record {
            es = s.es ++ e ∷ [];
            many = length-append s.es (e ∷ []) ∙ ap (λ (n : ℕ). n + 1) s.many;
            few = omega (arith, few);
            are = entries-more s.es e s.are is;
            offset_is = ap₂ (λ (o n : ℕ). o + n + 5) s.offset_is (sym long) ∙ sym (offset-more first_offset s.es e);
            low = omega (arith, s.low, fits);
            rows_are = rows_are;
            inside = omega (arith, s.inside, taken, short);
            tally_is = ap (λ (r : Rowed). r.tally) got.0 ∙ ap (after_one today e) s.tally_is ∙ sym (after_more today s.es e start);
            size_is = same_size ∙ s.size_is;
          }

  -- it fits
  pub length-fits : {kind size : ℕ} {c : List ℕ} → kind < 256 → size < 4294967296 → Bytes c → length c ≡ lent_of size → {left : List ℕ} {r : Rowed} (k : ℕ) → k ≡ row_room
      → RowAnswers today kind g.offset size c g.tally (mid_of g.length k text) left r → g.length + r.length ≤ text_size
  length-fits small fits b l k room a = let t = (appended small fits b l k room a).so_far in omega (arith, t.inside, t.few)

-- ---- the last lines

module _ {today : ℕ} {g : Going} {text : List ℕ} (s : SoFar today g text) (k : ℕ) (room : k ≡ row_room) where
  pub room-left : g.length + row_room ≤ text_size
  room-left = omega (arith, s.inside, s.few)

  pub finished : {left : List ℕ} {r : Done} → let before = mid_of g.length k text in Leaves (last_output g.tally.good g.tally.agreement (length before)) before left r
      → let all = put_mid g.length k text left in (g.length + r.length ≤ text_size) × (g.length + r.length ≤ length all) × Summarises today (take (g.length + r.length) all)
  finished {left} {r} a = (omega (arith, taken, short, room-left), within, record { es = s.es; few = omega (arith, s.many, s.few); are = s.are; summary = summary })
    where
      before : List ℕ
      before = mid_of g.length k text

      lent-room : length before ≡ row_room
      lent-room = length-take-le k (drop g.length text) (rw length-drop (omega (arith, room-left, s.size_is, room))) ∙ room

      lines : List ℕ
      lines = last_text g.tally.good (alike g.tally.agreement)

      output : last_output g.tally.good g.tally.agreement (length before) ≡ text_of lines
      output = last-0 g.tally.good g.tally.agreement (length before) (omega (arith, lent-room))

      good-is : g.tally.good ≡ conforming today s.es
      good-is = ap (λ (t : Tally). t.good) s.tally_is ∙ Counts-all today s.es start (omega (arith, s.many, s.few)) ∙ zero-add (conforming today s.es)

      short : length lines ≤ row_room
      short = last-most g.tally.good (alike g.tally.agreement) (omega (arith, good-is, few-conform today s.es, s.many, s.few))

      taken : r.length ≡ length lines
      taken = ap (λ (d : Done). d.length) (a.answer ∙ ap done_of output)

      left_is : left ≡ filled lines k
      left_is = a.room ∙ ap₂ (λ (o : Output) (n : ℕ). filled (bytes_of o) n) output (lent-room ∙ sym room)

      same_size : length (put_mid g.length k text left) ≡ length text
      same_size = same_len_mid g.length k text left (ap length left_is ∙ length-filled lines k (omega (arith, short, room)) ∙ room ∙ sym lent-room)

      within : g.length + r.length ≤ length (put_mid g.length k text left)
      within = omega (arith, same_size, taken, short, room-left, s.size_is)

      summary : IsSummary today s.es (take (g.length + r.length) (put_mid g.length k text left))
      summary =
          record {
            agree = alike g.tally.agreement;
            agree_is = rw s.tally_is (agrees today s.es s.are);
            text_is =
                ap₂ (λ (n : ℕ) (u : List ℕ). take (g.length + n) (put_mid g.length k text u)) taken left_is
                ∙ written text lines g.length k (omega (arith, room-left, s.size_is))
                ∙ ap₂ (λ (u : List ℕ) (n : ℕ). u ++ last_text n (alike g.tally.agreement)) s.rows_are good-is;
          }
