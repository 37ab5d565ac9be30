pub mod PowerUp
