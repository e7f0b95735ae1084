-- What the program says of a feedback number and a response. Assumes nothing.
use Rattle.std.specs.Prelude.{◌≡◌, ◌≢◌, ℕ, ◌-◌, ◌^◌, min, Bool, ◌⊎◌, ⊤, List, ◌++◌, length, Option, Some, None, Result, Ok, Err, String, string_bytes, codes, decimal}
use Rattle.std.specs.Global.{Global}
use Rattle.refusal.specs.declared.reason.Refusal.TheVariants.{NotAFeedback}
use Rattle.refusal.specs.Printed.{printed}
use Rattle.gf2.specs.Polynomials.{degree, residue}
use Rattle.gf2.specs.Responses.{polynomial}
use Rattle.gf2.specs.Feedbacks.{IsFeedback}
use Rattle.explain.specs.Arguments.{Numeral, number, typed}
use Rattle.explain.specs.Spelling.{spelled}
use Rattle.explain.specs.Quotient.{Quotient}
use Rattle.explain.specs.declared.error.ExplainError.{ExplainError}
use Rattle.explain.specs.declared.error.ExplainError.TheVariants.{BadCode, BadBits, OutOfMemory}

abbrev pub quotient_text : Option ℕ → List ℕ
quotient_text None = codes "too long for 64 bits"
quotient_text (Some q) = decimal q

-- four lines: the feedback, the length of the response, quotient and remainder
abbrev pub lines : ℕ → List ℕ → ℕ → ℕ → List ℕ → ℕ → List ℕ
lines code terms k n quotient remainder =
    decimal code
    ++ (codes " is "
    ++ (terms
    ++ (codes ", a feedback of degree "
    ++ (decimal k
    ++ (codes "\nthe response has length "
    ++ (decimal n ++ (codes "\nits quotient is " ++ (quotient ++ (codes "\nits remainder is " ++ (decimal remainder ++ codes "\n"))))))))))

abbrev pub explanation : ℕ → List Bool → Option ℕ → List ℕ
explanation f bits q = lines f (spelled f) (degree f) (length bits) (quotient_text q) (residue f (polynomial bits))

-- the text explains the number and the response: those lines for a feedback, and the refusal's line for another number
abbrev pub Explains : ℕ → List Bool → List ℕ → Type 0
Explains code bits text =
    (IsFeedback code × ((q : Option ℕ) × Quotient code (polynomial bits) q × (text ≡ explanation code bits q)))
    ⊎ ((IsFeedback code → ⊥) × (text ≡ printed NotAFeedback))

-- the same of a response as it is typed
abbrev pub ExplainsTyped : ℕ → List ℕ → List ℕ → Type 0
ExplainsTyped code bits text = (b : List Bool) × (bits ≡ typed b) × Explains code b text

-- v is read from the text: the number that it writes, or the largest of 64 bits, of which the same is to be said
pub record Read (text : List ℕ) (v : ℕ) : Type 0 where
  pub numeral : Numeral text
  pub value : v ≡ min (number text) (2 ^ 64 - 1)
  pub same : (bits said : List ℕ) → ExplainsTyped v bits said → ExplainsTyped (number text) bits said

-- what ends the reading of the second text: it is no response, or there was no memory for its bits
abbrev pub EndsReading : List ℕ → ExplainError → Type 0
EndsReading bits BadCode = ⊥
EndsReading bits BadBits = (b : List Bool) → bits ≢ typed b
EndsReading bits OutOfMemory = ⊤

-- the answer to two texts: the first that is not what it should be is named, and memory is asked for only where the first is a number
abbrev pub Answers : List ℕ → List ℕ → Result (String Global) ExplainError → Type 0
Answers code bits (Ok text) = Numeral code × ExplainsTyped (number code) bits (string_bytes text)
Answers code bits (Err BadCode) = Numeral code → ⊥
Answers code bits (Err BadBits) = Numeral code × ((b : List Bool) → bits ≢ typed b)
Answers code bits (Err OutOfMemory) = Numeral code
