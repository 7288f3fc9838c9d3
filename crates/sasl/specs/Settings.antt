-- What a server is set up with, and what it says of it. (D-Bus Specification: "OK Command", "DBUS_COOKIE_SHA1")
use Rattle.std.specs.Prelude.{ℕ, Bool, codes, List, ◌∷◌, ◌++◌}
use Rattle.sha1.specs.Sha1.{sha1}
use Rattle.hex.specs.Hex.{encode_lower}

-- a secret that the server shares with its user, and the number by which the user finds it, in digits
pub record Cookie : Type 0 where
  pub id : List ℕ
  pub secret : List ℕ

-- who may log in: the user who knows the cookie, and anyone where anonymous ones are allowed
pub record Login : Type 0 where
  -- the sixteen bytes of the server's GUID
  pub guid : List ℕ
  pub user : List ℕ
  pub cookie : Cookie
  pub allow_anonymous : Bool

-- what one conversation is set up with: the login, and sixteen bytes that nobody could guess
pub record Setting : Type 0 where
  pub login : Login
  pub challenge : List ℕ

abbrev pub space : ℕ
space = 32

abbrev pub colon : ℕ
colon = 58

-- the challenge as the client is told it
abbrev pub challenge_text : Setting → List ℕ
challenge_text s = encode_lower s.challenge

-- The context, the cookie's number and the challenge.
abbrev pub question : Setting → List ℕ
question s = codes "org_freedesktop_general" ++ space ∷ s.login.cookie.id ++ space ∷ challenge_text s

-- What shows that a client knows the cookie: the hex of the SHA-1 of both challenges and the cookie, with colons between them.
unfoldable pub cookie_digest : List ℕ → List ℕ → List ℕ → List ℕ
cookie_digest challenge client cookie = encode_lower (sha1 (challenge ++ colon ∷ client ++ colon ∷ cookie))
