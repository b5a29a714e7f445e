-- Request 2026-04: which fault is named. "Items are judged in byte order, 25 before 24 at one item."
use Rattle.std.specs.Prelude.{ℕ, zero, suc, ◌≤◌, ◌<◌, ◌≡◌, ◌⊎◌, List, [], ◌∷◌, ◌++◌, length}
use Rattle.verdicts.specs.declared.Fault.{Fault}
use Rattle.verdicts.specs.declared.Fault.TheVariants.{BadDer, TooDeep}
use Rattle.heads.specs.Length.{length_bytes}
use Rattle.heads.specs.Tag.{GoodTag, opens}
use Rattle.der.specs.Der.{Item, Items, der_bytes, all_bytes, Good, AllGood, levels, all_levels, IsItem, IsCertificate}

-- at the front of s stands a good tag t, a length in fewest bytes and contents c that fit; r is behind them
abbrev pub Stands : List ℕ → ℕ → List ℕ → List ℕ → Type 0
Stands s t c r = GoodTag t × (s ≡ (t ∷ (length_bytes (length c) ++ c)) ++ r)

-- an item should stand at the front of s: it has a bad tag, a bad length or contents that do not fit, or the fault is in its contents
abbrev pub Fails : (List ℕ → Fault → Type 0) → List ℕ → Fault → Type 0
Fails inner s f =
    ((f ≡ BadDer) × ((t : ℕ) (c r : List ℕ) → Stands s t c r → ⊥))
    ⊎ ((t : ℕ) × (c : List ℕ) × (r : List ℕ) × Stands s t c r × (opens t ≡ 1) × inner c f)

-- among the parts s of an open item, with so many levels below it, the first fault in byte order is f: where no level is left, that there
-- is a part at all; else good parts come first, and the next fails
abbrev pub Stops : ℕ → List ℕ → Fault → Type 0
Stops zero s f = (f ≡ TooDeep) × (0 < length s)
Stops (suc d) s f =
    (ps : Items) × (r : List ℕ) × AllGood ps × (all_levels ps ≤ suc d) × (s ≡ all_bytes ps ++ r) × (0 < length r) × Fails (λ c g. Stops d c g) r f

-- the fault of the whole: nothing is there; or the outermost item fails; or it is good, and bytes stand behind it
abbrev pub Refused : ℕ → List ℕ → Fault → Type 0
Refused depth [] f = f ≡ BadDer
Refused zero (b ∷ s) f = f ≡ TooDeep
Refused (suc d) (b ∷ s) f =
    Fails (λ c g. Stops d c g) (b ∷ s) f
    ⊎ ((f ≡ BadDer) × ((i : Item) × (r : List ℕ) × Good i × (levels i ≤ suc d) × (b ∷ s ≡ der_bytes i ++ r) × (0 < length r)))

-- the fault of a certificate: that one; or v is an item and no SEQUENCE of three parts, "judged when its last part has been read"
abbrev pub NoCertificate : ℕ → List ℕ → Fault → Type 0
NoCertificate depth v f = Refused depth v f ⊎ ((f ≡ BadDer) × IsItem depth v × (IsCertificate depth v → ⊥))
