-- The section is read back, since the rules of the open values bound them: of two of one kind, equal texts say the same of it. Assumes nothing.
use Prim.Native.Nat.{ℕ, ◌^◌, ◌<◌}
use mathlib.Core.Path.{◌≡◌, refl, sym, ap, ap₂, ◌∙◌}
use mathlib.Core.Bool.{true}
use mathlib.Core.List.{List, [], ◌∷◌}
use lib.ListN.{length, get_or}
use Rattle.laws.specs.Bytes.{Bytes}
use Rattle.laws.proofs.Cases.{and-true, either}
use Rattle.laws.proofs.Layouts.{by_entries}
use Rattle.fascn.specs.Fascn.{IsFascn}
use Rattle.fascn.proofs.Codec.{complete}
use Rattle.dates.specs.Date.{text_number}
use Rattle.dates.proofs.Dates.{eight-digits, text-number}
use Rattle.cbeff.specs.Header.{fingers, face, iris}
use Rattle.cbeff.proofs.Exact.{fascn-inside}
use Rattle.kinds.specs.Tables.{table}
use Rattle.kinds.specs.declared.ValueRule.TheVariants.{Fascn, Expiry, Fingers, Face, Iris}
use Rattle.texts.specs.Text.{ascii}
use Rattle.texts.proofs.Reading.{Reads, and, given, so, behind}
use Rattle.texts.proofs.Numbers.{line_reads, hex-reads, raw-reads}
use Rattle.container.specs.Container.{Values, Conforms}
use Rattle.container.proofs.Forms.{conforming-bytes}
use Rattle.container.proofs.Sizes.{allowed-sized}
use Rattle.opens.specs.Open.{Open, nothing, model, holder, card, policy, issuer, Opening, opens_none, opens_model, opens_card, opens_policy, opens_issuer, opens_holder, open_by, tagged_value, agency_of, system_of, in_header, open_of, open_part}
use Rattle.opens.proofs.Valued.{tagged_row, value-bytes}
use Rattle.opens.proofs.Openings.{ruled_by, sized, value_keeps, value-takes, opening, sound, sound-kind}

-- ---- the forms

-- agency and system of a FASC-N
fascn-small : (s : List ℕ) → IsFascn s → (agency_of s < 10 ^ 4) × (system_of s < 10 ^ 4)
fascn-small s f = rw (complete s f.0 f.1, agency_of, system_of) (f.1.in_range.agency, f.1.in_range.system)

holder-reads : (a b s t : ℕ) → (a < 10 ^ 4) × (s < 10 ^ 4) → (b < 10 ^ 4) × (t < 10 ^ 4) → Reads (open_part (holder a s)) (open_part (holder b t)) (holder a s ≡ holder b t)
unfolding open_part
holder-reads a b s t g h =
    so (λ r. ap₂ holder r.0 r.1)
    (and (behind (ascii "OPEN 2\nagency ") (line_reads 4 a b g.0 h.0)) (behind (ascii "system ") (line_reads 4 s t g.1 h.1)))

card-open-reads : (a b s t e f : ℕ) → (a < 10 ^ 4) × (s < 10 ^ 4) → (b < 10 ^ 4) × (t < 10 ^ 4) → e < 10 ^ 8 → f < 10 ^ 8
    → Reads (open_part (card a s e)) (open_part (card b t f)) (card a s e ≡ card b t f)
unfolding open_part
card-open-reads a b s t e f g h i j =
    so (λ r. λ n. card (r.0.0 n) (r.0.1 n) (r.1 n))
    (and
    (and (behind (ascii "OPEN 3\nagency ") (line_reads 4 a b g.0 h.0)) (behind (ascii "system ") (line_reads 4 s t g.1 h.1)))
    (behind (ascii "expires ") (line_reads 8 e f i j)))

policy-reads : (p q : List ℕ) → Bytes p → Bytes q → length p ≡ 2 → length q ≡ 2 → Reads (open_part (policy p)) (open_part (policy q)) (policy p ≡ policy q)
unfolding open_part
policy-reads p q b c l m =
    let g = rw (by_entries 2 p l) at b in
    let h = rw (by_entries 2 q m) at c in
    so (λ r. ap policy (by_entries 2 p l ∙ rw (r.0.0, r.0.1) (sym (by_entries 2 q m))))
    (behind (ascii "OPEN 1\npolicy ")
    (and (and (hex-reads (get_or p 0 0) (get_or q 0 0) g.0 h.0) (hex-reads (get_or p 1 0) (get_or q 1 0) g.1.0 h.1.0)) (given (10 ∷ []))))

issuer-reads : (v w : List ℕ) → length v ≡ 15 → length w ≡ 15 → Reads (open_part (issuer v)) (open_part (issuer w)) (issuer v ≡ issuer w)
unfolding open_part
issuer-reads v w l m = so (λ r. ap issuer r.0) (behind (ascii "OPEN 1\nissuer ") (and (raw-reads v w (l ∙ sym m)) (given (10 ∷ []))))

-- ---- what is known of the values of a container that conforms

module _ (k t : ℕ) (vs : Values) (c : List ℕ) (b : Bytes c) (h : Conforms k t vs c) where
  bytes : (tag : ℕ) → Bytes (tagged_value (table k) vs tag)
  bytes tag = value-bytes tag (table k) vs (conforming-bytes k t vs c h b)

  a-fascn : (tag : ℕ) → ruled_by Fascn (tagged_row (table k) tag) ≡ true → (agency_of (tagged_value (table k) vs tag) < 10 ^ 4) × (system_of (tagged_value (table k) vs tag) < 10 ^ 4)
  a-fascn tag e = fascn-small _ (value_keeps t tag (table k) vs h.allowed Fascn e)

  an-expiry : (tag : ℕ) → ruled_by Expiry (tagged_row (table k) tag) ≡ true → text_number (tagged_value (table k) vs tag) < 10 ^ 8
  an-expiry tag e = let (n, r, w) = value_keeps t tag (table k) vs h.allowed Expiry e in rw (text-number _ n r) (eight-digits _ n r)

  takes : (tag n : ℕ) → sized n (tagged_row (table k) tag) ≡ true → length (tagged_value (table k) vs tag) ≡ n
  takes tag n e = value-takes tag (table k) vs (allowed-sized t (table k) vs h.allowed) n e

  -- a biometric record has a FASC-N in its header
  inside : (tag : ℕ) → sound (opens_holder tag) (table k) ≡ true
      → let f = in_header (tagged_value (table k) vs tag) in (agency_of f < 10 ^ 4) × (system_of f < 10 ^ 4)
  inside tag s =
      fascn-small _
      (either _ (ruled_by Iris (tagged_row (table k) tag))
      (either (ruled_by Fingers (tagged_row (table k) tag)) (ruled_by Face (tagged_row (table k) tag))
      (λ e. fascn-inside fingers _ (bytes tag) (value_keeps t tag (table k) vs h.allowed Fingers e))
      (λ e. fascn-inside face _ (bytes tag) (value_keeps t tag (table k) vs h.allowed Face e)))
      (λ e. fascn-inside iris _ (bytes tag) (value_keeps t tag (table k) vs h.allowed Iris e)) s)

-- ---- of two

module _ (k t u : ℕ) (vs ws : Values) (c d : List ℕ) (b : Bytes c) (g : Bytes d) (h : Conforms k t vs c) (i : Conforms k u ws d) where
  opening-reads : (o : Opening) → sound o (table k) ≡ true
      → let x : Open = open_by o (tagged_value (table k) vs) in let y : Open = open_by o (tagged_value (table k) ws) in Reads (open_part x) (open_part y) (x ≡ y)
  opening-reads opens_none s = so (λ z. refl) (given (open_part nothing))
  opening-reads opens_model s = so (λ z. refl) (given (open_part model))
  opening-reads (opens_card fascn expiry) s =
      let (f, e) = and-true (ruled_by Fascn (tagged_row (table k) fascn)) _ s in
      card-open-reads _ _ _ _ _ _ (a-fascn k t vs c b h fascn f) (a-fascn k u ws d g i fascn f) (an-expiry k t vs c b h expiry e) (an-expiry k u ws d g i expiry e)
  opening-reads (opens_policy tag) s =
      policy-reads _ _ (bytes k t vs c b h tag) (bytes k u ws d g i tag) (takes k t vs c b h tag 2 s) (takes k u ws d g i tag 2 s)
  opening-reads (opens_issuer tag) s = issuer-reads _ _ (takes k t vs c b h tag 15 s) (takes k u ws d g i tag 15 s)
  opening-reads (opens_holder tag) s = holder-reads _ _ _ _ (inside k t vs c b h tag s) (inside k u ws d g i tag s)

  pub open-reads : Reads (open_part (open_of k vs)) (open_part (open_of k ws)) (open_of k vs ≡ open_of k ws)
  open-reads = opening-reads (opening k) (sound-kind k)
