pub mod LocalMail
