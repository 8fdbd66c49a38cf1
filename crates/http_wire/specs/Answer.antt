-- The bytes of an answer.
use Rattle.std.specs.Prelude.{ℕ, ◌==◌, ◌++◌, Bool, if◌then◌else◌, List, [], ◌∷◌, length, codes, decimal, unwrap_or}
use Rattle.std.specs.List.{list_any}
use Rattle.http.specs.StatusCode.{reason_phrase}

-- the statuses that the office answers
abbrev pub answered : List ℕ
answered = 200 ∷ 201 ∷ 400 ∷ 404 ∷ 405 ∷ 409 ∷ 413 ∷ 422 ∷ 431 ∷ 500 ∷ 501 ∷ 503 ∷ 507 ∷ []

-- the status is one of them
abbrev pub is_answered : ℕ → Bool
is_answered status = list_any (λ known. known == status) answered

-- the phrase of a status
abbrev pub phrase_of : ℕ → List ℕ
phrase_of status = unwrap_or (reason_phrase status) []

-- the type of a body
abbrev pub type_of : Bool → List ℕ
type_of json = if json then codes "application/json" else codes "text/plain"

-- the field that closes the connection, or nothing
abbrev pub closing_of : Bool → List ℕ
closing_of last = if last then codes "\r\nConnection: close" else []

-- the head of an answer with a body of this length: a status line, fields, and an empty line
abbrev pub head_bytes : ℕ → Bool → Bool → ℕ → List ℕ
head_bytes status json last size =
    codes "HTTP/1.1 " ++ decimal status ++ codes " " ++ phrase_of status
    ++ codes "\r\nContent-Type: " ++ type_of json
    ++ codes "\r\nContent-Length: " ++ decimal size
    ++ closing_of last
    ++ codes "\r\n\r\n"

-- an answer: its head, then its body
abbrev pub answer_bytes : ℕ → Bool → Bool → List ℕ → List ℕ
answer_bytes status json last body = head_bytes status json last (length body) ++ body
