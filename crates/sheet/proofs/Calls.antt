-- What a check says, from what the judge of the container answers. Assumes nothing.
use Rattle.std.proofs.Common.{ℕ, List, ◌≡◌, length, arith, Ok, Err, Bor, refl}
use Rattle.laws.specs.Room.{zeros}
use Rattle.laws.specs.Bytes.{Bytes}
use Rattle.laws.proofs.Rooms.{no_room}
use Rattle.verdicts.specs.Verdicts.{number_of, verdict_of}
use Rattle.verdicts.specs.declared.Finding.{Finding}
use Rattle.verdicts.specs.declared.Fault.TheVariants.{SmallRoom}
use Rattle.kinds.specs.Tables.{table}
use Rattle.kinds.proofs.Every.{some-rows}
use Rattle.container.specs.Reading.{located}
use Rattle.container.specs.Map.{map_of}
use Rattle.container.specs.Judged.{Of, contents}
use Rattle.container.specs.declared.conforming.Conforming.{Conforming}
use Rattle.container.proofs.Lying.{read-broken, fine-conforms}
use Rattle.container.proofs.Promise.{named}
use Rattle.sheet.specs.Sheet.{sheet_of}
use Rattle.sheet.proofs.Sheets.{some_shown}
use Rattle.sheet.specs.Calls.{Given, short, Says, breaks, conforms}

-- a room of no bytes takes no sheet: a kind has rows
pub no_sheet : (m : Conforming) {d : List ℕ} → length d ≡ 0 → Given (sheet_of (contents m)) d d (number_of SmallRoom) 0
no_sheet m {d} e = short (omega (arith, e, some_shown m.rows.spans m.rows.bytes.now (length (table m.kind)) (some-rows m.kind m.known))) refl refl (no_room d e)

module _ (kind today : ℕ) (c : Bor (List ℕ)) (b : Bytes c.now) {before after : List ℕ} where
  pub told : {f : Finding} → Err f ≡ map_of (located kind today c.now) → after ≡ zeros (length before)
      → Says kind today c.now before after (record { verdict = verdict_of (Err f); room = 0; length = 0 })
  told {f} e z = breaks f (named kind today c.now b f (read-broken kind today c.now e)) refl z

  pub kept : {m : Conforming} {room size : ℕ} → Ok m.rows.spans ≡ map_of (located kind today c.now) → Of kind today c m → Given (sheet_of (contents m)) before after room size
      → Says kind today c.now before after (record { verdict = verdict_of (Ok tt); room = room; length = size })
  kept {m} e o g =
      let k = fine-conforms kind today c.now e b in
      conforms (contents m) (rw (o.kind_is, o.bytes_are) k) refl g
