-- Nine of the calls that C has: those of the door but the list of points, which C has as five lists, and those of a folder (`Folder.antt`). Each record is the
-- whole contract of one function: the record of the door's call, of the numbers that the function answers and stores. A verdict's tag is stored by its number. Nothing is left open (`promises`, `SettledForC`).
use Rattle.std.specs.Prelude.{ℕ, ◌≡◌, List, length, get_or, None}
use Rattle.fascn.specs.declared.Numbers.{Numbers}
use Rattle.fascn.specs.declared.Decoded.{Decoded}
use Rattle.verdicts.specs.Verdicts.{Tag, tag_number}
use Rattle.views.specs.Views.{viewed}
use Rattle.points.specs.Calls.{Five}
use Rattle.signer.specs.Signer.{Signed, Says}
use Rattle.prosianek.specs.Calls.{Checks, Writes, Reports, Lists, Decodes, DecodesByTable, Encodes}

-- nine numbers in 01's order: agency, system, credential, series, issue, person, category, organisation, association
abbrev pub numbers_of : List ℕ → Numbers
numbers_of l =
    record {
      agency = get_or l 0 0;
      system = get_or l 1 0;
      credential = get_or l 2 0;
      series = get_or l 3 0;
      issue = get_or l 4 0;
      person = get_or l 5 0;
      category = get_or l 6 0;
      organisation = get_or l 7 0;
      association = get_or l 8 0;
    }

pub record CChecks (kind today : ℕ) (c before after : List ℕ) (number place tag room size : ℕ) : Type 0 where
  pub there : Tag
  pub tag_is : tag ≡ tag_number there
  pub answers : Checks kind today c before after (record { verdict = record { number = number; place = place; tag = there }; room = room; length = size })

pub record CWrites (kind today : ℕ) (s before after : List ℕ) (number place tag size : ℕ) : Type 0 where
  pub there : Tag
  pub tag_is : tag ≡ tag_number there
  pub answers : Writes kind today s before after (record { number = number; place = place; tag = there; length = size })

-- a view in numbers: its part has `size` bytes and starts at `offset` of the container
pub record CViews (kind today : ℕ) (c : List ℕ) (element number place tag offset size : ℕ) : Type 0 where
  pub number_is : number ≡ (viewed kind today c element).verdict.number
  pub place_is : place ≡ (viewed kind today c element).verdict.place
  pub tag_is : tag ≡ tag_number (viewed kind today c element).verdict.tag
  pub offset_is : offset ≡ (viewed kind today c element).part.offset
  pub size_is : size ≡ length (viewed kind today c element).part.bytes

-- no refusal of a report has another place than 0, or a tag
pub record CReports (kind today : ℕ) (c before after : List ℕ) (number size : ℕ) : Type 0 where
  pub answers : Reports kind today c before after (record { number = number; place = 0; tag = None; length = size })

pub record CLists (today : ℕ) (c : List ℕ) (before after : Five) (number place tag first second : ℕ) : Type 0 where
  pub there : Tag
  pub tag_is : tag ≡ tag_number there
  pub answers : Lists today c before after (record { verdict = record { number = number; place = place; tag = there }; first = first; second = second })

-- a signer's certificate in numbers: it has `size` bytes and starts at `offset` of the container that is named
pub record CSigners (kind today : ℕ) (chuid biometric : List ℕ) (number place tag which offset size : ℕ) : Type 0 where
  pub signed : Signed
  pub says : Says kind today chuid biometric signed
  pub number_is : number ≡ signed.verdict.number
  pub place_is : place ≡ signed.verdict.place
  pub tag_is : tag ≡ tag_number signed.verdict.tag
  pub which_is : which ≡ signed.which
  pub offset_is : offset ≡ signed.offset
  pub size_is : size ≡ length signed.bytes

pub record CDecodes (s : List ℕ) (number : ℕ) (numbers : List ℕ) : Type 0 where
  pub answers : Decodes s (record { number = number; numbers = numbers_of numbers })
  pub nine : length numbers ≡ 9

-- the list is the door's own: an entry lies in memory as its structs are declared, number first and then the nine in 01's order. No record says that
-- order; `tests/words` holds the declarations to it
pub record CDecodesByTable (bytes : List ℕ) (before after : List Decoded) (number : ℕ) : Type 0 where
  pub answers : DecodesByTable bytes before after number

pub record CEncodes (numbers before after : List ℕ) (number : ℕ) : Type 0 where
  pub answers : Encodes (numbers_of numbers) before after number
