-- A card and a call in lines of text.
use Rattle.std.specs.Prelude.{ℕ, List, [], ◌∷◌, ◌++◌, Some, None, Ok, Err, codes, decimal, Option, Result}
use Rattle.card.specs.declared.header.Header.{Header}
use Rattle.card.specs.declared.limits.Limits.{Limits}
use Rattle.card.specs.declared.purse.Purse.{Purse}
use Rattle.card.specs.declared.record.Record.{Record}
use Rattle.card.specs.declared.view.CardView.{CardView}
use Rattle.card.specs.declared.host.HostRefusal.{HostRefusal}
use Rattle.card.specs.Calls.{host_number}
use Rattle.card.specs.Card.{card_of}
use Rattle.card.specs.Pages.{Pages, page}
use Rattle.card.specs.Words.{life_cycle_words, block_flag_words, kind_words, refusal_words}
use Rattle.report.specs.Words.{algorithm_words}
use Rattle.report.specs.declared.lines.Files.{Files}
use Rattle.text.specs.Hex.{hex_of}

-- an accepted call
abbrev pub accepted_line : List ℕ → List ℕ
accepted_line call = call ++ codes ": accepted"

-- a refused call, with the number and the reason
abbrev pub refused_line : List ℕ → HostRefusal → List ℕ
refused_line call e = call ++ (codes ": refused by number " ++ (decimal (host_number e) ++ (codes ", " ++ refusal_words e)))

-- what came of a call
abbrev pub outcome_line : List ℕ → Result (Unit {0}) HostRefusal → List ℕ
outcome_line call (Ok _) = accepted_line call
outcome_line call (Err e) = refused_line call e

-- which card it is, and whether it can be used
abbrev pub identity_lines : Header → List ℕ
identity_lines h =
    codes "card number     " ++ (hex_of h.idep
    ++ (codes "\nissuing centre  " ++ (hex_of (h.idcenter ∷ [])
    ++ (codes "\nlife cycle      " ++ (life_cycle_words h.life
    ++ (codes "\nblock flag      " ++ (block_flag_words h.block ++ codes "\n")))))))

-- the algorithm of the card's seals and the version of its keys
abbrev pub sealing_lines : Header → List ℕ
sealing_lines h =
    codes "algorithm       " ++ (hex_of (h.algorithm ∷ []) ++ (codes " (" ++ (algorithm_words h.algorithm
    ++ (codes ")\nkey version     " ++ (hex_of (h.version ∷ []) ++ codes "\n")))))

abbrev pub limits_lines : Limits → List ℕ
limits_lines l = codes "ride ceiling    " ++ (decimal l.ceiling ++ (codes " won\ntotal limit     " ++ (decimal l.limit ++ codes " won\n")))

abbrev pub purse_lines : Purse → List ℕ
purse_lines u = codes "total           " ++ (decimal u.total ++ (codes " won\ntransaction no. " ++ (decimal u.nt ++ codes "\n")))

-- the three files, by their SFI
abbrev pub file_lines : Files → List ℕ
file_lines f =
    codes "file 12         " ++ (hex_of f.file_12 ++ (codes "\nfile 13         " ++ (hex_of f.file_13
    ++ (codes "\nfile 14         " ++ (hex_of f.file_14 ++ codes "\n")))))

-- how many records the log holds, and the newest
abbrev pub record_line : ℕ → Record → List ℕ
record_line held r =
    codes "log             " ++ (decimal held ++ (codes " held, the newest a " ++ (kind_words r.kind ++ (codes " of " ++ (decimal r.amount
    ++ (codes " won, NT " ++ (decimal r.nt ++ (codes ", total then " ++ (decimal r.total ++ codes " won\n")))))))))

abbrev pub log_line : ℕ → Option Record → List ℕ
log_line held None = codes "log             no record held\n"
log_line held (Some r) = record_line held r

abbrev pub card_lines : CardView → Files → List ℕ
card_lines v f =
    identity_lines v.header ++ (sealing_lines v.header ++ (limits_lines v.limits
    ++ (purse_lines v.purse ++ (file_lines f ++ log_line v.purse.held v.newest))))

-- the files are pages 3, 4 and 5
abbrev pub files_of : Pages → Files
files_of p = record { file_12 = page p 3; file_13 = page p 4; file_14 = page p 5 }

-- the card that pages are, in words; none where they are no card
abbrev pub described : Option CardView → Pages → Option (List ℕ)
described None p = None
described (Some v) p = Some (card_lines v (files_of p))

abbrev pub description : Pages → Option (List ℕ)
description p = described (card_of p) p
